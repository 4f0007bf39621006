use Rattle.std.proofs.Common.{◌≡◌, ℕ, ◌/◌, ◌≤◌, length, Option, Some}
use Rattle.std.specs.Prelude.{slice_get}
use Rattle.rd_overlays.specs.declared.overlay.Overlay.{Overlay}
use Rattle.rd_overlays.specs.declared.bounds.Bounds.{Bounds}
use Rattle.rd_overlays.specs.Bounds.{SlotHolds}
use Rattle.rd_overlays.proofs.index.widen_all.Given as goal

-- all batches hold what they held, and those of the places passed hold the overlay where the number stands in them
abbrev pub invariant-loop-place : goal.invariant-loop-place
invariant-loop-place l = record {
  within : l.place ≤ length l.order;
  size : length l.bounds ≡ length l.initial.bounds;
  kept : (batch : ℕ) (c : Bounds) (other : Option Overlay) → ((b : Bounds) → slice_get l.initial.bounds batch ≡ Some b → SlotHolds b other) → slice_get l.bounds batch ≡ Some c → SlotHolds c other;
  holds : (k : ℕ) (c : Bounds) → l.place ≤ k → slice_get l.order k ≡ Some l.number → slice_get l.bounds (k / 256) ≡ Some c → SlotHolds c l.slot;
}

abbrev pub decreases-loop-place : goal.decreases-loop-place
decreases-loop-place l = l.place
