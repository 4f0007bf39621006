use Rattle.std.proofs.Common.{◌-◌, ◌≤◌, length}
use Rattle.rd_overlays.specs.Bounds.{IsBoundedTo}
use Rattle.rd_overlays.proofs.index.bounds_of.Given as goal

abbrev pub invariant-loop-place : goal.invariant-loop-place
invariant-loop-place l = record {
  within : l.place ≤ length l.order;
  bounded : IsBoundedTo l.place l.slots l.order l.bounds;
}

abbrev pub decreases-loop-place : goal.decreases-loop-place
decreases-loop-place l = length l.order - l.place
