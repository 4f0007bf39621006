-- What is kept beside the overlays: their numbers in another order, and bounds of the edges of each batch of them.
use Rattle.std.specs.Prelude.{◌≡◌, ℕ, ◌+◌, ◌-◌, ◌*◌, ◌/◌, ◌<◌, ◌≤◌, min, nat_lt, if◌then◌else◌, false, List, ◌++◌, length, slice_get, Option, None, Some, ⊤}
use Rattle.std.specs.List.{range_with_len}
use Rattle.std.specs.List.Sorted.{IsPermutation}
use Rattle.rd_base.specs.declared.limits.TheConstants.{LAST_POSITION}
use Rattle.rd_overlays.specs.declared.overlay.Overlay.{Overlay}
use Rattle.rd_overlays.specs.declared.overlay.Meeting.{Meeting}
use Rattle.rd_overlays.specs.declared.bounds.Bounds.{Bounds}
use Rattle.rd_overlays.specs.declared.index.TheConstants.{BATCH}
use Rattle.rd_overlays.specs.Overlays.{overlay_at, meets, after_deletion}

-- both edges of an overlay lie within bounds
pub record Holds (b : Bounds) (o : Overlay) : Type 0 where
  pub low_from : b.low ≤ o.from
  pub low_to : b.low ≤ o.to
  pub from_high : o.from ≤ b.high
  pub to_high : o.to ≤ b.high

abbrev pub SlotHolds : Bounds → Option Overlay → Type 0
SlotHolds b None = ⊤
SlotHolds b (Some o) = Holds b o

-- each overlay of these numbers lies within the bounds of its batch
pub record IsBounded (slots : List (Option Overlay)) (order : List ℕ) (bounds : List Bounds) : Type 0 where
  pub room : length order ≤ length bounds * BATCH
  pub holds : (place number : ℕ) (b : Bounds) → slice_get order place ≡ Some number → slice_get bounds (place / BATCH) ≡ Some b → SlotHolds b (overlay_at slots number)

-- bounds that hold of the numbers before a place alone
pub record IsBoundedTo (place : ℕ) (slots : List (Option Overlay)) (order : List ℕ) (bounds : List Bounds) : Type 0 where
  pub room : place ≤ length bounds * BATCH
  pub holds : (k number : ℕ) (b : Bounds) → k < place → slice_get order k ≡ Some number → slice_get bounds (k / BATCH) ≡ Some b → SlotHolds b (overlay_at slots number)

-- each batch of new bounds holds what it held, and the batch of a place holds one more overlay
pub record IsWidened (old new : List Bounds) (place : ℕ) (slot : Option Overlay) : Type 0 where
  pub size : length new ≡ length old
  pub kept : (batch : ℕ) (b c : Bounds) (other : Option Overlay) → slice_get old batch ≡ Some b → slice_get new batch ≡ Some c → SlotHolds b other → SlotHolds c other
  pub holds : (b : Bounds) → slice_get new (place / BATCH) ≡ Some b → SlotHolds b slot

-- the first numbers, each once, in some order, with bounds
pub record IsIndex (slots : List (Option Overlay)) (order : List ℕ) (bounds : List Bounds) : Type 0 where
  pub size : length order ≤ length slots
  pub whole : IsPermutation (range_with_len 0 (length order)) order
  pub bounded : IsBounded slots order bounds

-- all numbers in the order in which a look-up comes to them: behind those of an index those that were made since
abbrev pub whole_order : List ℕ → ℕ → List ℕ
whole_order order size = order ++ range_with_len (length order) (size - length order)

-- an overlay neither covers a position nor starts or ends there
abbrev pub IsAway : ℕ → Option Overlay → Type 0
IsAway pos None = ⊤
IsAway pos (Some o) = (m : Meeting) → meets m pos o ≡ false

-- bounds after an insertion: what stands behind the position moves, and what stands at it may move
abbrev pub bounds_grown : ℕ → ℕ → Bounds → Bounds
bounds_grown pos n b = record {
  low = if nat_lt pos b.low then min (b.low + n) LAST_POSITION else b.low;
  high = if nat_lt b.high pos then b.high else min (b.high + n) LAST_POSITION;
}

-- bounds after a deletion
abbrev pub bounds_shrunk : ℕ → ℕ → Bounds → Bounds
bounds_shrunk from to b = record { low = after_deletion from to b.low; high = after_deletion from to b.high }
