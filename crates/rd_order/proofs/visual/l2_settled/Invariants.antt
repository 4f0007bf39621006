use Rattle.std.proofs.Common.{ℕ, ◌-◌, ◌<◌, ◌≤◌, length, slice_index}
use Rattle.rd_order.specs.Places.{Comes}
use Rattle.rd_order.proofs.visual.l2_settled.Given as goal

abbrev pub invariant-loop-level : goal.invariant-loop-level
invariant-loop-level l = record {
  base : l.base ≤ l.level;
  place : l.place < length l.levels;
  high : l.base < l.level → l.level ≤ slice_index l.levels l.place;
  comes : (p : ℕ) → Comes (slice_index l.levels) (length l.levels) l.base (l.fn.level - l.base) p l.fn.place
      → Comes (slice_index l.levels) (length l.levels) l.base (l.level - l.base) p l.place;
}

abbrev pub decreases-loop-level : goal.decreases-loop-level
decreases-loop-level l = 255 - l.level
