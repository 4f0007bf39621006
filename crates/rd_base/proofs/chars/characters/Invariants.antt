use Rattle.std.proofs.Common.{◌≡◌}
use Rattle.rd_base.proofs.chars.characters.Given as goal

abbrev pub invariant-loop-c : goal.invariant-loop-c
invariant-loop-c l = l.list ≡ l.yielded
