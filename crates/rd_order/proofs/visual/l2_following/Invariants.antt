use Rattle.std.proofs.Common.{◌≡◌, ℕ, ◌-◌, ◌<◌, ◌≤◌, length, slice_index, slice_get, Some}
use Rattle.rd_order.specs.Order.{l2_visual_order}
use Rattle.rd_order.specs.Places.{Comes}
use Rattle.rd_order.proofs.visual.l2_following.Given as goal

abbrev pub invariant-loop-beside : goal.invariant-loop-beside
invariant-loop-beside l = record {
  base : l.base ≤ l.level;
  place : l.place < length l.levels;
  high : l.base < l.level → l.level ≤ slice_index l.levels l.place;
  comes : (p : ℕ) → slice_get (l2_visual_order l.base l.levels) p ≡ Some l.index
      → Comes (slice_index l.levels) (length l.levels) l.base (l.level - l.base) p l.place;
}

abbrev pub decreases-loop-beside : goal.decreases-loop-beside
decreases-loop-beside l = l.level
