use Rattle.std.proofs.Common.{◌≡◌, ◌≤◌, ℕ}
use Rattle.rd_spans.specs.Values.{value_at}
use Rattle.rd_spans.specs.Sides.{values_of_both}
use Rattle.rd_spans.proofs.gap.first_alike.Given as goal

abbrev pub invariant-loop-from : goal.invariant-loop-from
invariant-loop-from l = record {
  before : l.from ≤ l.pos;
  same : (q : ℕ) → l.from ≤ q → q ≤ l.pos → value_at (values_of_both l.front l.back) q ≡ value_at (values_of_both l.front l.back) l.pos;
}

abbrev pub decreases-loop-from : goal.decreases-loop-from
decreases-loop-from l = l.from
