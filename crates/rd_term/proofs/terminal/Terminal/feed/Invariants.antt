use Rattle.std.proofs.Common.{◌≡◌, drop}
use Rattle.rd_term.specs.Terminals.{feed_bytes}
use Rattle.rd_term.proofs.terminal.Terminal.feed.Given as goal

-- what is left, read from here, is the whole, read from the start
abbrev pub invariant-loop-byte : goal.invariant-loop-byte
invariant-loop-byte l = feed_bytes l.self (drop l.byte-index l.bytes) ≡ feed_bytes l.fn.self l.bytes
