-- All numbers, in the order in which a look-up comes to them.
use Rattle.std.proofs.Common.{◌≡◌, ℕ, ◌+◌, ◌-◌, ◌<◌, ◌≤◌, List, ◌++◌, length, map, get_or, Option, Some, None, refl, sym, ap, subst, ◌∙◌, arith, length-append}
use Rattle.std.specs.Prelude.{slice_get}
use Rattle.std.specs.List.{range_with_len}
use Rattle.std.specs.Option.{unwrap_or}
use Rattle.std.specs.List.Sorted.{IsPermutation}
use Rattle.std.proofs.lemmas.List.FromFn.{fill_by_all, length-range_with_len, get_or-range_with_len}
use Rattle.std.proofs.lemmas.List.Sorted.{IsPermutation-append_left, IsPermutation-map, length_permutation}
use Rattle.std.proofs.lemmas.Option.{slice_get-get_or}
use Rattle.rd_base.proofs.Lists.{get-second, range-split}
use Rattle.rd_overlays.specs.declared.overlay.Overlay.{Overlay}
use Rattle.rd_overlays.specs.declared.bounds.Bounds.{Bounds}
use Rattle.rd_overlays.specs.declared.way.Way.{Way}
use Rattle.rd_overlays.specs.Overlays.{overlay_at, nearest_edge}
use Rattle.rd_overlays.specs.Listings.{edge_in}
use Rattle.rd_overlays.specs.Bounds.{whole_order, IsBounded, IsIndex}
use Rattle.rd_overlays.proofs.Nearest.{same-edge}

pub number-back : (order : List ℕ) (size place : ℕ) → length order ≤ place → place < size → slice_get (whole_order order size) place ≡ Some place
number-back order size place low high =
    let m = length order in
    let k = place - m in
    let more = range_with_len m (size - m) in
    let e : place ≡ m + k = omega arith in
    let inside : k < length more = omega (arith, length-range_with_len m (size - m), low, high) in
    let is : get_or more k 0 ≡ place = get_or-range_with_len m (size - m) k 0 (omega (arith, low, high)) ∙ sym e in
    get-second order more place k e ∙ (slice_get-get_or more k 0 inside ∙ ap Some is)

pub whole_order-size : (order : List ℕ) (size : ℕ) → length order ≤ size → length (whole_order order size) ≡ size
whole_order-size order size p =
    let more = length-range_with_len (length order) (size - length order) in
    let both = length-append order (range_with_len (length order) (size - length order)) in
    omega (arith, more, both, p)

-- each number stands among them once
pub whole_order-whole : (slots : List (Option Overlay)) (order : List ℕ) → length order ≤ length slots → IsPermutation (range_with_len 0 (length order)) order
    → IsPermutation (range_with_len 0 (length slots)) (whole_order order (length slots))
whole_order-whole slots order size whole =
    let m = length order in
    let n = length slots in
    let P : List ℕ → Type 0 = λ xs. IsPermutation xs (whole_order order n) in
    let e : m + (n - m) ≡ n = omega (arith, size) in
    let first : m ≡ 0 + m = omega arith in
    let parts : range_with_len 0 m ++ range_with_len m (n - m) ≡ range_with_len 0 n
    = ap (λ (a : ℕ). range_with_len 0 m ++ range_with_len a (n - m)) first ∙ (sym (range-split 0 m (n - m)) ∙ ap (range_with_len 0) e) in
    subst P parts (IsPermutation-append_left (range_with_len m (n - m)) (range_with_len 0 m) order whole)

pub edge-of_all : (way : Way) (pos : ℕ) (slots : List (Option Overlay)) (order : List ℕ) → length order ≤ length slots → IsPermutation (range_with_len 0 (length order)) order
    → edge_in way pos slots (whole_order order (length slots)) ≡ nearest_edge way pos slots
edge-of_all way pos slots order size whole =
    let numbers = range_with_len 0 (length slots) in
    let now = whole_order order (length slots) in
    let shuffled = IsPermutation-map (overlay_at slots) numbers now (whole_order-whole slots order size whole) in
    let all = fill_by_all (overlay_at slots) slots (length slots) None refl
    (λ k inside. sym (ap (λ s. unwrap_or s None) (slice_get-get_or slots k None inside))) in
    same-edge way pos (map (overlay_at slots) numbers) (map (overlay_at slots) now) shuffled ∙ ap (nearest_edge way pos) (sym all)

pub built-index : (slots : List (Option Overlay)) (numbers sorted order : List ℕ) (bounds : List Bounds) → numbers ≡ range_with_len 0 (length slots)
    → IsPermutation numbers sorted → order ≡ sorted → IsBounded slots order bounds → IsIndex slots order bounds
built-index slots numbers sorted order bounds is shuffled same bounded =
    let P : List ℕ → Type 0 = λ xs. IsPermutation xs order in
    let Q : List ℕ → Type 0 = λ xs. IsPermutation numbers xs in
    let size : length order ≡ length slots = ap length same ∙ (length_permutation numbers sorted shuffled ∙ (ap length is ∙ length-range_with_len 0 (length slots))) in
    record {
      size = omega (arith, size);
      whole = subst P (is ∙ ap (range_with_len 0) (sym size)) (subst Q (sym same) shuffled);
      bounded = bounded;
    }
