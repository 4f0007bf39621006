-- Where the last element of a line is the first of its item, that item begins in the last row of the line.
use Rattle.std.proofs.Common.{◌≡◌, ℕ, ◌+◌, ◌-◌, ◌<◌, ◌||◌, ◌&&◌, not, if◌then◌else◌, Bool, true, false, List, [], ◌∷◌, ◌++◌, Option, None, Some, refl, ap, ◌∙◌, subst, arith}
use Rattle.std.specs.List.{flat_map, list_any}
use Rattle.std.proofs.lemmas.Bool.{and_parts}
use Rattle.std.proofs.lemmas.Grind.{flat_map-append}
use Rattle.std.proofs.lemmas.List.{append-nil}
use Rattle.std.proofs.lemmas.List.Folds.{list_any-append}
use Rattle.rd_base.specs.declared.element.Element.{Element}
use Rattle.rd_matrix.proofs.HeldLemmas.{covers-moved}
use Rattle.rd_matrix.specs.Columns.{covers}
use Rattle.rd_matrix.specs.Held.{in_range}
use Rattle.rd_matrix.specs.Sources.{begins_last}
use Rattle.rd_rows.proofs.Splits.{lead_behind, next_behind, none-left, over-rows, placed_in, spot_behind}
use Rattle.rd_rows.specs.Laws.{seen_rows, range_of}
use Rattle.rd_rows.specs.Placing.{behind, behind_all, columns_of, is_item, next_line, next_row, place_all, placed_at}
use Rattle.rd_rows.specs.Rows.{RowMeaning, begin_of, rows_of, rows_within, row_of}
use Rattle.rd_rows.specs.Shapes.{ShapeValues}
use Rattle.rd_rows.specs.declared.begin.Begin.{Begin}
use Rattle.rd_rows.specs.declared.cutting.Cutting.{Cutting}
use Rattle.rd_rows.specs.declared.spot.Placed.{Placed}
use Rattle.rd_rows.specs.declared.spot.Spot.{Spot}

-- whether the last of these elements is the first of its item, and that item covers an offset; the item of the element before them is given
abbrev pub ends_with_item : ℕ → Option ℕ → List Element → Bool
ends_with_item offset before [] = false
ends_with_item offset before (e ∷ []) = not (is_item before e.origin.item) && in_range offset (e.origin.from, e.origin.to)
ends_with_item offset before (e ∷ f ∷ es) = ends_with_item offset (Some e.origin.item) (f ∷ es)

-- an item that covers an offset of its block
abbrev has_offset : ℕ → Begin → Bool
has_offset offset b = in_range offset (range_of b)

either-true : (a b : Bool) → b ≡ true → (a || b) ≡ true
either-true true b h = refl
either-true false b h = h

module _ (offset : ℕ) where
  begun-here : (first : Bool) (b : Begin) → (first && has_offset offset b) ≡ true → list_any (has_offset offset) ((if first then b ∷ [] else []) ++ []) ≡ true
  begun-here first b h = let both = and_parts first (has_offset offset b) h in rw (both.0, both.1) refl

  begun-placed : (shape : ShapeValues) (spot : Spot) (xs : List Element) → ends_with_item offset spot.before xs ≡ true
      → list_any (has_offset offset) (flat_map (begin_of shape) (place_all shape spot xs)) ≡ true
  begun-placed shape spot [] h = cc
  begun-placed shape spot (x ∷ []) h = begun-here (not (is_item spot.before x.origin.item)) _ h
  begun-placed shape spot (x ∷ y ∷ xs) h =
      let p = placed_at shape spot x in
      let rest = flat_map (begin_of shape) (place_all shape (behind spot p) (y ∷ xs)) in
      list_any-append (has_offset offset) (begin_of shape p) rest
      ∙ either-true (list_any (has_offset offset) (begin_of shape p)) (list_any (has_offset offset) rest) (begun-placed shape (behind spot p) (y ∷ xs) h)

  begun-row : (shape : ShapeValues) (lead : List Placed) (start : Spot) (xs : List Element) → ends_with_item offset start.before xs ≡ true
      → list_any (has_offset offset) (flat_map (begin_of shape) (lead ++ place_all shape start xs)) ≡ true
  begun-row shape lead start xs h =
      let before = flat_map (begin_of shape) lead in
      let own = flat_map (begin_of shape) (place_all shape start xs) in
      ap (list_any (has_offset offset)) (flat_map-append (begin_of shape) lead (place_all shape start xs))
      ∙ (list_any-append (has_offset offset) before own
      ∙ either-true (list_any (has_offset offset) before) (list_any (has_offset offset) own) (begun-placed shape start xs h))

  -- where elements follow, they end with the item
  ends-behind : (shape : ShapeValues) (spot : Spot) (xs : List Element) (f : Element) (fs : List Element) → ends_with_item offset spot.before (xs ++ f ∷ fs) ≡ true
      → ends_with_item offset (behind_all spot (place_all shape spot xs)).before (f ∷ fs) ≡ true
  ends-behind shape spot [] f fs h = h
  ends-behind shape spot (x ∷ []) f fs h = h
  ends-behind shape spot (x ∷ y ∷ xs) f fs h = ends-behind shape (behind spot (placed_at shape spot x)) (y ∷ xs) f fs h

  ends-next : (ended : Bool) (spot : Spot) (es : List Element) → ends_with_item offset spot.before es ≡ true → ends_with_item offset (if ended then next_line spot else spot).before es ≡ true
  ends-next true spot es h = h
  ends-next false spot es h = h

  last-behind : (r : RowMeaning) (rs : List RowMeaning) → begins_last (has_offset offset) rs ≡ true → begins_last (has_offset offset) (r ∷ rs) ≡ true
  last-behind r [] h = cc
  last-behind r (s ∷ rs) h = h

  ender-step : (n : ℕ) (c : Cutting) (lead : List Placed) (spot : Spot) (xs rest : List Element) (marked ended : Bool)
      → (ends_with_item offset (next_behind c lead spot xs ended).before rest ≡ true
      → begins_last (has_offset offset) (seen_rows (rows_within n c (lead_behind c ended) (next_behind c lead spot xs ended) rest)) ≡ true)
      → ends_with_item offset spot.before (xs ++ rest) ≡ true
      → (r : RowMeaning) → r.begins ≡ flat_map (begin_of c.shape) (lead ++ place_all c.shape (next_row (columns_of lead) spot) xs)
      → begins_last (has_offset offset) (r ∷ seen_rows (rows_within n c (lead_behind c ended) (next_behind c lead spot xs ended) rest)) ≡ true
  ender-step n c lead spot xs [] marked ended later h r own =
      let start = next_row (columns_of lead) spot in
      rw (none-left n c (lead_behind c ended) (next_behind c lead spot xs ended))
      (ap (list_any (has_offset offset)) own ∙ begun-row c.shape lead start xs (subst (λ (ys : List Element). ends_with_item offset spot.before ys ≡ true) (append-nil xs) h))
  ender-step n c lead spot xs (f ∷ fs) marked ended later h r own =
      let start = next_row (columns_of lead) spot in
      last-behind r (seen_rows (rows_within n c (lead_behind c ended) (next_behind c lead spot xs ended) (f ∷ fs)))
      (later (ends-next ended (behind_all start (place_all c.shape start xs)) (f ∷ fs) (ends-behind c.shape start xs f fs h)))

  ender-row : (c : Cutting) (es : List Element) → ends_with_item offset None es ≡ true → begins_last (has_offset offset) (seen_rows (rows_of c es)) ≡ true
  ender-row c es =
      over-rows c (λ lead. Unit {0}) (λ lead spot ys rows. ends_with_item offset spot.before ys ≡ true → begins_last (has_offset offset) (seen_rows rows) ≡ true) tt tt (λ lead spot h. cc)
      (λ n lead spot xs rest marked ended one lines later h. ender-step n c lead spot xs rest marked ended later h (row_of c (spot_behind c lead spot xs).used marked (lead ++ placed_in c lead spot xs)) refl)
      es

-- in the rows of the line of a block of this size, the item of the block's last position begins in the last row
pub row-of-last : (start end size : ℕ) (c : Cutting) (es : List Element) → start + size ≡ end → start < end → ends_with_item (size - 1) None es ≡ true
    → begins_last (covers start (end - 1)) (seen_rows (rows_of c es)) ≡ true
row-of-last start end size c es whole some h =
    let k : ℕ = size - 1 in
    let at : end - 1 ≡ start + k = omega (arith, whole, some) in
    let rows = seen_rows (rows_of c es) in
    ap (λ (p : ℕ). begins_last (covers start p) rows) at ∙ ((λ i. begins_last (λ b. covers-moved start k b i) rows) ∙ ender-row k c es h)
