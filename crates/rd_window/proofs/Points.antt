-- Where the item that covers a point begins, among all rows of a source and in a view.
use Rattle.std.proofs.Common.{◌≡◌, ℕ, ◌+◌, ◌-◌, ◌<◌, ◌≤◌, inl, inr, true, false, cond, ◌||◌, List, [], ◌∷◌, length, take, drop, slice_get, option_map, is_some, Option, None, Some, refl, sym, ap, ◌∙◌, arith}
use Rattle.std.proofs.lemmas.Bool.{cases_Bool}
use Rattle.std.proofs.lemmas.List.{length-take}
use Rattle.std.proofs.lemmas.Option.{slice_get_within}
use Rattle.std.proofs.lemmas.Map.Keys.{any_passes_from_place}
use Rattle.std.specs.List.{count_by, find, list_any}
use Rattle.rd_base.proofs.Choices.{some-mapped}
use Rattle.rd_base.proofs.Lists.{count-cons, get-drop, get-take, is_some-found}
use Rattle.rd_matrix.proofs.Covering.{count_at, cursor-row, few-whole}
use Rattle.rd_matrix.proofs.Passing.{at-position, one-position, some-counted}
use Rattle.rd_matrix.specs.Blocks.{IsWithin}
use Rattle.rd_matrix.specs.Columns.{covers, shown_column}
use Rattle.rd_matrix.specs.Cursors.{column_shown, cursor_in, or_below}
use Rattle.rd_matrix.specs.Entries.{EntryMeaning}
use Rattle.rd_matrix.specs.Sources.{IsSource, SourceValues, rows_at}
use Rattle.rd_rows.specs.Shapes.{IsShape, ShapeValues}
use Rattle.rd_rows.specs.declared.begin.Begin.{Begin}
use Rattle.rd_start.proofs.Blocks.{some-begins}
use Rattle.rd_start.specs.Chosen.{begins_item, row_of}

-- ---- one row of a source has the beginning

-- rows that have it are no more than items that cover the position
pub rows-counted : (point : ℕ) (es : List EntryMeaning) → count_by (begins_item point) es ≤ count_at point es
rows-counted point [] = omega arith
rows-counted point (e ∷ es) =
    let rest = rows-counted point es in
    let count = count-cons (begins_item point) e es in
    elim (cases_Bool (begins_item point e)) [
      | inl here ↦
          let some = some-counted (covers e.start point) e.row.begins here in
          let whole = count ∙ ap (λ t. cond t 1 0 + count_by (begins_item point) es) here in
          omega (arith, rest, some, whole)
      | inr here ↦ let whole = count ∙ ap (λ t. cond t 1 0 + count_by (begins_item point) es) here in omega (arith, rest, whole)
    ]

-- ---- the cursor of a list of rows

-- a row has the beginning exactly where it is shown in a column
begins-shown : (point : ℕ) (e : EntryMeaning) → begins_item point e ≡ is_some (column_shown point e)
begins-shown point e =
    let found = find (covers e.start point) e.row.begins in
    sym (some-mapped (shown_column e.row) (option_map (λ (b : Begin). b.column) found)
    ∙ (some-mapped (λ (b : Begin). b.column) found ∙ is_some-found (covers e.start point) e.row.begins))

neither-some : (here : Option ℕ) (below : Option (ℕ × ℕ)) → or_below here below ≡ None → (here ≡ None) × (below ≡ None)
neither-some (Some c) below at = absurd cc
neither-some None (Some p) at = absurd cc
neither-some None None at = (refl, refl)

cursor-none : (point : ℕ) (es : List EntryMeaning) → cursor_in point es ≡ None → list_any (begins_item point) es ≡ false
cursor-none point [] at = refl
cursor-none point (e ∷ es) at =
    let both = neither-some (column_shown point e) (cursor_in point es) at in
    let here = begins-shown point e ∙ ap is_some both.0 in
    ap (λ t. t || list_any (begins_item point) es) here ∙ cursor-none point es both.1

-- ---- in a view

-- the row at a place of a view
pub in-view : {X : Type 0} (xs : List X) (place height i : ℕ) → i < height → slice_get (take height (drop place xs)) i ≡ slice_get xs (place + i)
in-view xs place height i low = get-take height (drop place xs) i low ∙ get-drop place xs (place + i) i refl

-- a view that does not show a point has no row in which its item begins
pub hidden : (point i height : ℕ) (rows : List EntryMeaning) (row : ℕ) (e : EntryMeaning) → slice_get rows row ≡ Some e → begins_item point e ≡ true
    → cursor_in point (take height (drop i rows)) ≡ None → i ≤ row → row < i + height → false ≡ true
hidden point i height rows row e there begins at low high =
    let k : ℕ = row - i in
    let place : i + k ≡ row = omega (arith, low) in
    let shown = in-view rows i height k (omega (arith, low, high)) ∙ ap (slice_get rows) place ∙ there in
    sym (cursor-none point (take height (drop i rows)) at) ∙ any_passes_from_place (begins_item point) (take height (drop i rows)) k e shown begins

module _ {m : SourceValues} {shape : ShapeValues} (point : ℕ) (source : IsSource m) (is : IsShape shape) where
  -- a point's row, where a view shows it
  pub point-shown : (i height : ℕ) (place : ℕ × ℕ) → cursor_in point (take height (drop i (rows_at m shape))) ≡ Some place
      → (row_of point (rows_at m shape) ≡ i + place.0) × (place.0 < height) × (i + place.0 < length (rows_at m shape))
  point-shown i height place at =
      let rows = rows_at m shape in
      let found = cursor-row point (take height (drop i rows)) place at in
      let begins = begins-shown point found.0 ∙ ap is_some found.2 in
      let taken = slice_get_within (take height (drop i rows)) place.0 found.0 found.1 in
      let size = length-take height (drop i rows) in
      let low : place.0 < height = omega (arith, taken, size) in
      let there = sym (in-view rows i height place.0 low) ∙ found.1 in
      let less = rows-counted point rows in
      let few = few-whole m shape point source is in
      (one-position (begins_item point) rows (i + place.0) found.0 (omega (arith, less, few)) there begins, low, slice_get_within rows (i + place.0) found.0 there)

  -- where a view does not show a point
  pub point-hidden : (i height : ℕ) → IsWithin point m.blocks → cursor_in point (take height (drop i (rows_at m shape))) ≡ None
      → i ≤ row_of point (rows_at m shape) → row_of point (rows_at m shape) < i + height → false ≡ true
  point-hidden i height within at low high =
      let rows = rows_at m shape in
      let found = at-position (begins_item point) rows (some-begins m shape point source is within) in
      hidden point i height rows (row_of point rows) found.0 found.1 found.2 at low high
