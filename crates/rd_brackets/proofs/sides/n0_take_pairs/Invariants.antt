use Rattle.std.proofs.Common.{◌≡◌, length, drop}
use Rattle.rd_brackets.specs.Sides.{n0_with_pairs}
use Rattle.rd_brackets.proofs.sides.n0_take_pairs.Given as goal

abbrev pub invariant-loop-opening : goal.invariant-loop-opening
invariant-loop-opening l = record {
  left : n0_with_pairs l.embedding l.sos l.opening (drop l.opening l.closings) l.types ≡ n0_with_pairs l.embedding l.sos 0 l.closings l.fn.types;
  count : length l.types ≡ length l.fn.types;
}
