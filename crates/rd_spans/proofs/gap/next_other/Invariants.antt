use Rattle.std.proofs.Common.{◌≡◌, ◌-◌, ◌<◌, ◌≤◌, ℕ}
use Rattle.rd_spans.specs.Values.{value_at}
use Rattle.rd_spans.specs.Sides.{values_of_both}
use Rattle.rd_spans.proofs.gap.next_other.Given as goal

abbrev pub invariant-loop-next : goal.invariant-loop-next
invariant-loop-next l = record {
  later : l.pos < l.next;
  few : l.next ≤ 4294967296;
  same : (r : ℕ) → l.pos < r → r < l.next → value_at (values_of_both l.front l.back) r ≡ value_at (values_of_both l.front l.back) l.pos;
}

abbrev pub decreases-loop-next : goal.decreases-loop-next
decreases-loop-next l = 4294967296 - l.next
