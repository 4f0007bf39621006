-- Bounds that move with their overlays, and what lies outside them.
use Rattle.std.proofs.Common.{◌≡◌, ℕ, ◌+◌, ◌-◌, ◌*◌, ◌/◌, ◌<◌, ◌≤◌, ◌⊎◌, min, Bool, true, false, if◌then◌else◌, List, ◌++◌, length, map, get_or, Option, None, Some, inl, inr, refl, sym, ap, subst, ◌∙◌, arith, length-append}
use Rattle.std.specs.Prelude.{slice_get, slice_set, nat_lt}
use Rattle.std.specs.List.{range_with_len}
use Rattle.std.specs.List.Sorted.{IsPermutation}
use Rattle.std.specs.Option.{unwrap_or}
use Rattle.std.proofs.lemmas.Bool.{cases_lt}
use Rattle.std.proofs.lemmas.Bool.Decides.{nat_tests}
use Rattle.std.proofs.lemmas.List.{length-map}
use Rattle.std.proofs.lemmas.List.Elements.{All-from_recursion}
use Rattle.std.proofs.lemmas.List.Sorted.{All-permutation}
use Rattle.std.proofs.lemmas.Option.{slice_get_within, slice_get-get_or, get_or_from_slice_get}
use Rattle.std.proofs.Math.Nat.{le-min}
use Rattle.rd_base.proofs.Lists.{all-at, get-first, get-map, range-below, read-set}
use Rattle.rd_base.specs.declared.limits.TheConstants.{LAST_POSITION}
use Rattle.rd_overlays.specs.declared.overlay.Overlay.{Overlay}
use Rattle.rd_overlays.specs.declared.overlay.Meeting.{Meeting}
use Rattle.rd_overlays.specs.declared.overlay.Meeting.TheVariants.{Covers, Starts, Ends}
use Rattle.rd_overlays.specs.declared.bounds.Bounds.{Bounds}
use Rattle.rd_overlays.specs.Overlays.{overlay_at, meets, after_insertion, after_deletion, slot_grown, slot_shrunk, Fits, SlotFits}
use Rattle.rd_overlays.specs.Moves.{slot_moved, bounds_moved, IsEdit, SlotFollows, AllFollow}
use Rattle.rd_overlays.specs.declared.moves.Edit.{Edit}
use Rattle.rd_overlays.specs.declared.moves.Edit.TheVariants.{Insertion, Deletion}
use Rattle.rd_overlays.proofs.Slots.{overlay_at-map}
use Rattle.rd_overlays.specs.Bounds.{Holds, SlotHolds, IsBounded, IsBoundedTo, IsWidened, IsIndex, IsAway, whole_order, bounds_grown, bounds_shrunk}

low-after : (pos n low v : ℕ) (m : Bool) → low ≤ v → (if nat_lt pos low then min (low + n) LAST_POSITION else low) ≤ after_insertion pos n m v
low-after pos n low v true p = grind (arith, nat_tests)
low-after pos n low v false p = grind (arith, nat_tests)

high-after : (pos n high v : ℕ) (m : Bool) → pos ≤ LAST_POSITION → v ≤ high → Fits pos n v
    → after_insertion pos n m v ≤ (if nat_lt high pos then high else min (high + n) LAST_POSITION)
high-after pos n high v true small p fits = grind (arith, nat_tests)
high-after pos n high v false small p fits = grind (arith, nat_tests)

min-le : (a b c : ℕ) → a ≤ c → min a b ≤ c
min-le a b c p = grind arith

pub grown-holds : (pos n : ℕ) (b : Bounds) (slot : Option Overlay) → pos ≤ LAST_POSITION → SlotFits pos n slot → SlotHolds b slot
    → SlotHolds (bounds_grown pos n b) (slot_grown pos n slot)
grown-holds pos n b None small fits h = tt
grown-holds pos n b (Some o) small fits h =
    let low_from = low-after pos n b.low o.from o.front h.low_from in
    let low_to = low-after pos n b.low o.to o.rear h.low_to in
    let from_high = high-after pos n b.high o.from o.front small h.from_high fits.0 in
    let to_high = high-after pos n b.high o.to o.rear small h.to_high fits.1 in
    record {
      low_from = le-min low_from low_to;
      low_to = low_to;
      from_high = min-le _ _ _ from_high;
      to_high = to_high;
    }

pub deletion-rises : (from to a b : ℕ) → from ≤ to → a ≤ b → after_deletion from to a ≤ after_deletion from to b
deletion-rises from to a b p q = grind (arith, nat_tests)

-- a place between two bounds around a deleted range stays between them; the upper one goes down by the range
pub deletion-within : (low high from to a : ℕ) → low ≤ from → from ≤ to → to ≤ high → low ≤ a → a ≤ high
    → (low ≤ after_deletion from to a) × (after_deletion from to a ≤ high - (to - from))
deletion-within low high from to a b c d e f = (grind (arith, nat_tests), grind (arith, nat_tests))

pub shrunk-holds : (from to : ℕ) (b : Bounds) (slot : Option Overlay) → from ≤ to → SlotHolds b slot
    → SlotHolds (bounds_shrunk from to b) (slot_shrunk from to slot)
shrunk-holds from to b None p h = tt
shrunk-holds from to b (Some o) p h = record {
  low_from = deletion-rises from to b.low o.from p h.low_from;
  low_to = deletion-rises from to b.low o.to p h.low_to;
  from_high = deletion-rises from to o.from b.high p h.from_high;
  to_high = deletion-rises from to o.to b.high p h.to_high;
}

both-moved : (f : Option Overlay → Option Overlay) (g : Bounds → Bounds) (slots : List (Option Overlay)) (order : List ℕ) (bounds : List Bounds)
    (place number : ℕ) (b : Bounds) → IsBounded slots order bounds → f None ≡ None
    → ((number : ℕ) (b : Bounds) → SlotHolds b (overlay_at slots number) → SlotHolds (g b) (f (overlay_at slots number)))
    → slice_get order place ≡ Some number
    → ((c : Bounds) × (slice_get bounds (place / 256) ≡ Some c) × (g c ≡ b)) → SlotHolds b (overlay_at (map f slots) number)
both-moved f g slots order bounds place number b h none step at (c, at_bounds, is) =
    let P : Bounds → Type 0 = λ x. SlotHolds x (overlay_at (map f slots) number) in
    let Q : Option Overlay → Type 0 = λ s. SlotHolds (g c) s in
    subst P is (subst Q (sym (overlay_at-map f slots number none)) (step number c (h.holds place number c at at_bounds)))

moved-bounded : (f : Option Overlay → Option Overlay) (g : Bounds → Bounds) (slots : List (Option Overlay)) (order : List ℕ) (bounds : List Bounds)
    → IsBounded slots order bounds → f None ≡ None
    → ((number : ℕ) (b : Bounds) → SlotHolds b (overlay_at slots number) → SlotHolds (g b) (f (overlay_at slots number)))
    → IsBounded (map f slots) order (map g bounds)
moved-bounded f g slots order bounds h none step =
    let bounds_size = length-map bounds g in
    let room = h.room in
    record {
      room = omega (arith, bounds_size, room);
      holds = λ place number b at d.
          let old = get-map g bounds (place / 256) b d in
          both-moved f g slots order bounds place number b h none step at old;
    }

-- each edit keeps what is moved within bounds that are moved
moved-holds : (edit : Edit) (b : Bounds) (slot : Option Overlay) → IsEdit edit → SlotFollows edit slot → SlotHolds b slot → SlotHolds (bounds_moved edit b) (slot_moved edit slot)
moved-holds (Insertion pos n) b slot small fits h = grown-holds pos n b slot small fits h
moved-holds (Deletion from to) b slot order fits h = shrunk-holds from to b slot order h

follows-by : (edit : Edit) (o : Option (Option Overlay)) → ((slot : Option Overlay) → o ≡ Some slot → SlotFollows edit slot) → SlotFollows edit (unwrap_or o None)
follows-by (Insertion pos n) None h = tt
follows-by (Insertion pos n) (Some slot) h = h slot refl
follows-by (Deletion from to) o h = tt

pub moved-index : (edit : Edit) (slots : List (Option Overlay)) (order : List ℕ) (bounds : List Bounds) → IsEdit edit → AllFollow edit slots
    → IsIndex slots order bounds → IsIndex (map (slot_moved edit) slots) order (map (bounds_moved edit) bounds)
moved-index edit slots order bounds right follow h =
    let slots_size = length-map slots (slot_moved edit) in
    let size = h.size in
    record {
      size = omega (arith, slots_size, size);
      whole = h.whole;
      bounded = moved-bounded (slot_moved edit) (bounds_moved edit) slots order bounds h.bounded refl
          (λ number b held. moved-holds edit b (overlay_at slots number) right (follows-by edit (slice_get slots number) (λ slot at. follow number slot at)) held);
    }

-- an overlay within bounds meets no position outside of them
outside : (m : Meeting) (pos : ℕ) (o : Overlay) (b : Bounds) → Holds b o → (pos < b.low) ⊎ (b.high < pos) → meets m pos o ≡ false
outside Covers pos o b h p = let low = h.low_from in let high = h.to_high in grind (arith, nat_tests)
outside Starts pos o b h p = let low = h.low_from in let high = h.from_high in grind (arith, nat_tests)
outside Ends pos o b h p = let low = h.low_to in let high = h.to_high in grind (arith, nat_tests)

pub away : (pos : ℕ) (b : Bounds) (slot : Option Overlay) → SlotHolds b slot → (pos < b.low) ⊎ (b.high < pos) → IsAway pos slot
away pos b None h p = tt
away pos b (Some o) h p = λ m. outside m pos o b h p

-- what stands in the batch of a place lies within its bounds
pub whole_order-holds : (slots : List (Option Overlay)) (order : List ℕ) (bounds : List Bounds) (size batch k number : ℕ) (b : Bounds) → IsBounded slots order bounds
    → slice_get bounds batch ≡ Some b → batch * 256 ≤ k → k < batch * 256 + 256 → k < length order → slice_get (whole_order order size) k ≡ Some number
    → SlotHolds b (overlay_at slots number)
whole_order-holds slots order bounds size batch k number b h at low high inside here =
    let same : k / 256 ≡ batch = omega arith in
    h.holds k number b (sym (get-first order (range_with_len (length order) (size - length order)) k inside) ∙ here) (ap (slice_get bounds) same ∙ at)

-- the bounds still hold what they held where some are wider
pub wider : (old new : List Bounds) (place k : ℕ) (slot other : Option Overlay) (c : Bounds) → IsWidened old new place slot
    → ((b : Bounds) → slice_get old k ≡ Some b → SlotHolds b other) → slice_get new k ≡ Some c → SlotHolds c other
wider old new place k slot other c w held at =
    let size = w.size in
    let inside = slice_get_within new k c at in
    let b = get_or old k c in
    let at_old = slice_get-get_or old k c (omega (arith, size, inside)) in
    w.kept k b c other at_old at (held b at_old)

-- an overlay lies within the bounds of the batches of its number from a place on
abbrev pub HoldsFrom : List ℕ → List Bounds → ℕ → Option Overlay → ℕ → Type 0
HoldsFrom order bounds number slot place =
    (k : ℕ) (c : Bounds) → place ≤ k → slice_get order k ≡ Some number → slice_get bounds (k / 256) ≡ Some c → SlotHolds c slot

-- what holds at the place before holds from there on
from_before : (order : List ℕ) (bounds : List Bounds) (number : ℕ) (slot : Option Overlay) (place : ℕ)
    → ((c : Bounds) → slice_get order (place - 1) ≡ Some number → slice_get bounds ((place - 1) / 256) ≡ Some c → SlotHolds c slot)
    → HoldsFrom order bounds number slot place → HoldsFrom order bounds number slot (place - 1)
from_before order bounds number slot place here h = λ k c p there at. elim (cases_lt k place) [
  | inl q ↦
      let same : k ≡ place - 1 = omega (arith, p, q) in
      here c (ap (slice_get order) (sym same) ∙ there) (ap (λ (j : ℕ). slice_get bounds (j / 256)) (sym same) ∙ at)
  | inr q ↦ h k c q there at
]

pub widened-step : (order : List ℕ) (now new : List Bounds) (number : ℕ) (slot : Option Overlay) (place : ℕ)
    → IsWidened now new (place - 1) slot → HoldsFrom order now number slot place → HoldsFrom order new number slot (place - 1)
widened-step order now new number slot place w h =
    from_before order new number slot place (λ c there at. w.holds c at)
    (λ k c q there at. wider now new (place - 1) (k / 256) slot slot c w (λ b at_now. h k b q there at_now) at)

pub other-step : (order : List ℕ) (bounds : List Bounds) (number : ℕ) (slot : Option Overlay) (place : ℕ)
    → (get_or order (place - 1) 0 ≡ number → ⊥) → HoldsFrom order bounds number slot place → HoldsFrom order bounds number slot (place - 1)
other-step order bounds number slot place other h =
    from_before order bounds number slot place (λ c there at. absurd (other (get_or_from_slice_get order (place - 1) number 0 there))) h

-- what lies within the bounds of each batch in which a number stands can come in place of its overlay
pub widened-bounded : (slots : List (Option Overlay)) (order : List ℕ) (old new : List Bounds) (number : ℕ) (slot : Option Overlay)
    → length new ≡ length old
    → ((place : ℕ) (c : Bounds) (other : Option Overlay) → ((b : Bounds) → slice_get old place ≡ Some b → SlotHolds b other) → slice_get new place ≡ Some c → SlotHolds c other)
    → ((place : ℕ) (c : Bounds) → slice_get order place ≡ Some number → slice_get new (place / 256) ≡ Some c → SlotHolds c slot)
    → IsBounded slots order old → IsBounded (slice_set slots number slot) order new
widened-bounded slots order old new number slot size kept holds h =
    let room = h.room in
    record {
      room = omega (arith, size, room);
      holds = λ place k c there at.
          read-set (λ s. SlotHolds c (unwrap_or s None)) slots number k slot (λ e. holds place c (there ∙ ap Some e) at)
          (kept (place / 256) c (overlay_at slots k) (λ b at_old. h.holds place k b there at_old) at);
    }

-- an overlay with no other edges can come in place of one, and the bounds hold
pub kept-bounded : (slots : List (Option Overlay)) (order : List ℕ) (bounds : List Bounds) (number : ℕ) (before after : Option Overlay)
    → ((b : Bounds) → SlotHolds b before → SlotHolds b after) → slice_get slots number ≡ Some before → IsBounded slots order bounds
    → IsBounded (slice_set slots number after) order bounds
kept-bounded slots order bounds number before after step at h =
    widened-bounded slots order bounds bounds number after refl (λ place b other held. held b)
    (λ place b there at_bounds. step b (subst (λ (s : Option Overlay). SlotHolds b s) (ap (λ s. unwrap_or s None) at) (h.holds place number b there at_bounds))) h

-- a number of the index is below the count of its numbers
pub number-below : (m : ℕ) (order : List ℕ) (place k : ℕ) → IsPermutation (range_with_len 0 m) order → slice_get order place ≡ Some k → k < m
number-below m order place k h at =
    all-at (λ n. n < m) order place k (All-permutation (λ n. n < m) (range_with_len 0 m) order h
    (All-from_recursion (λ n. n < m) (range_with_len 0 m) (range-below 0 m m (omega arith)))) at

pub longer-index : (slots more : List (Option Overlay)) (order : List ℕ) (bounds : List Bounds) → IsIndex slots order bounds → IsIndex (slots ++ more) order bounds
longer-index slots more order bounds h =
    let size = h.size in
    let longer = length-append slots more in
    record {
      size = omega (arith, size, longer);
      whole = h.whole;
      bounded = record {
        room = h.bounded.room;
        holds = λ place k b at at_bounds.
            let p = number-below (length order) order place k h.whole at in
            let inside : k < length slots = omega (arith, p, size) in
            subst (λ (s : Option Overlay). SlotHolds b s) (sym (ap (λ s. unwrap_or s None) (get-first slots more k inside))) (h.bounded.holds place k b at at_bounds);
      };
    }

-- the bounds of one more number
last-by : (slots : List (Option Overlay)) (order : List ℕ) (old new : List Bounds) (place number k n : ℕ) (c : Bounds) (t : Bool) → nat_lt k place ≡ t
    → k < place + 1 → slice_get order place ≡ Some number → IsBoundedTo place slots order old → IsWidened old new place (overlay_at slots number)
    → slice_get order k ≡ Some n → slice_get new (k / 256) ≡ Some c → SlotHolds c (overlay_at slots n)
last-by slots order old new place number k n c true e p at h w there at_new =
    let q : k < place = grind (arith, nat_tests) in
    wider old new place (k / 256) (overlay_at slots number) (overlay_at slots n) c w (λ b at_old. h.holds k n b q there at_old) at_new
last-by slots order old new place number k n c false e p at h w there at_new =
    let same : k ≡ place = grind (arith, nat_tests) in
    let is : Some number ≡ Some n = sym at ∙ (ap (slice_get order) (sym same) ∙ there) in
    let P : Option Overlay → Type 0 = λ s. SlotHolds c s in
    subst P (ap (overlay_at slots) (ap (λ (o : Option ℕ). unwrap_or o number) is)) (w.holds c (ap (λ (q : ℕ). slice_get new (q / 256)) (sym same) ∙ at_new))

pub one-bounded : (slots : List (Option Overlay)) (order : List ℕ) (old new : List Bounds) (place number : ℕ)
    → slice_get order place ≡ Some number → place < length old * 256 → IsBoundedTo place slots order old → IsWidened old new place (overlay_at slots number)
    → IsBoundedTo (place + 1) slots order new
one-bounded slots order old new place number at room h w =
    let size = w.size in
    record {
      room = omega (arith, size, room);
      holds = λ k n c p there at_new. last-by slots order old new place number k n c (nat_lt k place) refl p at h w there at_new;
    }

pub all-bounded : (place : ℕ) (slots : List (Option Overlay)) (order : List ℕ) (bounds : List Bounds) → length order ≤ place
    → IsBoundedTo place slots order bounds → IsBounded slots order bounds
all-bounded place slots order bounds p h =
    let room = h.room in
    record {
      room = omega (arith, room, p);
      holds = λ k n b at at_bounds. h.holds k n b (omega (arith, p, slice_get_within order k n at)) at at_bounds;
    }
