use Rattle.std.proofs.Common.{◌≡◌, take}
use Rattle.rd_tests_sessions.proofs.sessions.characters.Given as goal

abbrev pub invariant-loop-byte : goal.invariant-loop-byte
invariant-loop-byte l = l.list ≡ take l.byte-index l.text
