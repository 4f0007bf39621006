use Rattle.std.proofs.Common.{◌≡◌, ◌≤◌, length, drop}
use Rattle.rd_overlays.specs.Overlays.{meets}
use Rattle.rd_overlays.specs.Bounds.{whole_order}
use Rattle.rd_overlays.specs.Listings.{found_in}
use Rattle.rd_overlays.proofs.listing.found.Given as goal

abbrev pub invariant-loop-place : goal.invariant-loop-place
invariant-loop-place l = record {
  within : l.place ≤ length l.slots;
  found : l.ranks.items ≡ found_in (meets l.meeting l.pos) l.slots (drop l.place (whole_order l.index.order (length l.slots)));
}

abbrev pub decreases-loop-place : goal.decreases-loop-place
decreases-loop-place l = l.place
