use Rattle.std.proofs.Common.{◌≡◌, ◌-◌, ◌≤◌, length, drop}
use Rattle.rd_overlays.specs.Overlays.{nearer}
use Rattle.rd_overlays.specs.Bounds.{whole_order}
use Rattle.rd_overlays.specs.Listings.{edge_in}
use Rattle.rd_overlays.proofs.edges.nearest_edge_by.Given as goal

abbrev pub invariant-loop-place : goal.invariant-loop-place
invariant-loop-place l = record {
  within : l.place ≤ length l.slots;
  nearest : nearer l.way l.nearest (edge_in l.way l.pos l.slots (drop l.place (whole_order l.index.order (length l.slots)))) ≡ edge_in l.way l.pos l.slots (whole_order l.index.order (length l.slots));
}

abbrev pub decreases-loop-place : goal.decreases-loop-place
decreases-loop-place l = length l.slots - l.place
