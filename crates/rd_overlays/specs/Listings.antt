-- What a listing of overlays holds, and in which order.
use Rattle.std.specs.Prelude.{◌≡◌, ℕ, ℤ, suc, ◌<◌, ◌↔◌, Bool, true, if◌then◌else◌, List, [], ◌∷◌, ◌++◌, length, map, slice_index, Option, None, Some}
use Rattle.std.specs.List.{Contains}
use Rattle.rd_overlays.specs.declared.overlay.Overlay.{Overlay}
use Rattle.rd_overlays.specs.declared.listing.Rank.{Rank}
use Rattle.rd_overlays.specs.declared.way.Way.{Way}
use Rattle.rd_overlays.specs.Overlays.{overlay_at, numbers_of, precedes, nearest_edge}

abbrev pub Passes : (Overlay → Bool) → Option Overlay → Type 0
Passes test None = ⊥
Passes test (Some overlay) = test overlay ≡ true

-- a listing holds exactly the numbers of the overlays that live and pass a test
abbrev pub HoldsExactly : (Overlay → Bool) → List (Option Overlay) → List ℕ → Type 0
HoldsExactly test slots numbers = (number : ℕ) → Contains numbers number ↔ Passes test (overlay_at slots number)

-- the priority of an overlay that lives and passes a test
abbrev pub listed_priority : (Overlay → Bool) → Option Overlay → Option ℤ
listed_priority test None = None
listed_priority test (Some overlay) = if test overlay then Some overlay.priority else None

abbrev pub rank_of : ℕ → Overlay → Rank
rank_of number overlay = record { priority = overlay.priority; number = number }

-- each overlay of a listing comes before those behind it, so none stands in it twice
abbrev pub Ascends : List (Option Overlay) → List ℕ → Type 0
Ascends slots numbers =
    (i j : ℕ) (a b : Overlay) → i < j → j < length numbers
    → overlay_at slots (slice_index numbers i) ≡ Some a → overlay_at slots (slice_index numbers j) ≡ Some b
    → precedes (rank_of (slice_index numbers i) a) (rank_of (slice_index numbers j) b) ≡ true

-- what is known of listings
pub record AreListings : Type 0 where
  pub exact : (test : Overlay → Bool) (slots : List (Option Overlay)) → HoldsExactly test slots (numbers_of test slots)
  pub ascends : (test : Overlay → Bool) (slots : List (Option Overlay)) → Ascends slots (numbers_of test slots)
  pub agree : (f g : Overlay → Bool) (a b : List (Option Overlay)) → ((number : ℕ) → listed_priority f (overlay_at a number) ≡ listed_priority g (overlay_at b number)) → numbers_of f a ≡ numbers_of g b

-- an overlay that stands at a number and passes a test, alone
abbrev pub rank_at : (Overlay → Bool) → ℕ → Option Overlay → List Rank
rank_at test number None = []
rank_at test number (Some overlay) = if test overlay then rank_of number overlay ∷ [] else []

-- the overlays that pass a test, from the last number down to the given one
abbrev pub found_from : (Overlay → Bool) → ℕ → List (Option Overlay) → List Rank
found_from test number [] = []
found_from test number (slot ∷ slots) = found_from test (suc number) slots ++ rank_at test number slot

-- the overlays of these numbers that pass a test, from the last number to the first
abbrev pub found_in : (Overlay → Bool) → List (Option Overlay) → List ℕ → List Rank
found_in test slots [] = []
found_in test slots (number ∷ numbers) = found_in test slots numbers ++ rank_at test number (overlay_at slots number)

-- the nearest edge of the overlays of these numbers on the way from a position
abbrev pub edge_in : Way → ℕ → List (Option Overlay) → List ℕ → Option ℕ
edge_in way pos slots numbers = nearest_edge way pos (map (overlay_at slots) numbers)
