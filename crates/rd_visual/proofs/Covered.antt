-- The items of rows that cover a position, and the hits of these rows.
use Rattle.std.proofs.Common.{◌≡◌, ℕ, zero, suc, ◌+◌, ◌<◌, ◌≤◌, nat_le, nat_lt, Bool, true, false, cond, List, [], ◌∷◌, ◌++◌, length, Option, None, Some, All, refl, ap, sym, ◌∙◌, subst, arith, add-one}
use Rattle.std.specs.Prelude.{count_by, option_and_then, slice_get}
use Rattle.std.specs.Option.{option_map}
use Rattle.std.proofs.lemmas.Bool.{and_parts}
use Rattle.std.proofs.lemmas.Bool.Decides.{nat_tests}
use Rattle.std.proofs.lemmas.Option.{slice_get-map, slice_get_past}
use Rattle.rd_base.proofs.Lists.{all-at, total-append}
use Rattle.rd_matrix.proofs.Covering.{covering, count_at, few-whole}
use Rattle.rd_matrix.proofs.EachRow.{entry-at}
use Rattle.rd_matrix.proofs.Passing.{found-one, place-counted}
use Rattle.rd_matrix.specs.Columns.{covers, shown_column}
use Rattle.rd_matrix.specs.Cursors.{column_shown, cursor_in, or_below}
use Rattle.rd_matrix.specs.Entries.{EntryMeaning, shown_entry, shown_entries}
use Rattle.rd_matrix.specs.Sources.{SourceValues, IsSource, rows_at}
use Rattle.rd_matrix.specs.declared.matrix.Entry.{Entry}
use Rattle.rd_rows.specs.Rows.{RowMeaning}
use Rattle.rd_rows.specs.Shapes.{ShapeValues, IsShape}
use Rattle.rd_rows.specs.declared.begin.Begin.{Begin}
use Rattle.rd_visual.specs.Hits.{AreInPositions, AreInRow, AreAdjacentRows, Fits, begins_at, covers_some, hit_in, item_at, item_of_cell, least_at}
use Rattle.rd_visual.proofs.Items.{found-none, item-again, item-alone, item-column, item-member}

covers-parts : (start point : ℕ) (b : Begin) → covers start point b ≡ true → (start + b.from ≤ point) × (point < start + b.to)
covers-parts start point b h =
    let both = and_parts (nat_le (start + b.from) point) (nat_lt point (start + b.to)) h in
    let low = both.0 in
    let high = both.1 in
    (grind (arith, nat_tests), grind (arith, nat_tests))

-- at most one item of rows in view covers a position
pub few-at : (m : SourceValues) (shape : ShapeValues) (es : List EntryMeaning) (point : ℕ) → IsSource m → IsShape shape → AreAdjacentRows m shape es → count_at point es ≤ 1
few-at m shape es point source is rows =
    let all = few-whole m shape point source is in
    let whole : count_at point (rows_at m shape) ≡ count_at point (rows.above ++ (es ++ rows.below)) = ap (count_at point) rows.rows in
    let above = total-append (covering point) rows.above (es ++ rows.below) in
    let below = total-append (covering point) es rows.below in
    omega (arith, all, whole, above, below)

-- the cursor stands where the item of its position begins

counted-row : (point r : ℕ) (es : List EntryMeaning) (e : EntryMeaning) → slice_get es r ≡ Some e → count_by (covers e.start point) e.row.begins ≤ count_at point es
counted-row point r [] e there = absurd cc
counted-row point zero (x ∷ xs) e there =
    let same : x ≡ e = cc in
    subst (λ (y : EntryMeaning). count_by (covers y.start point) y.row.begins ≤ count_at point (x ∷ xs)) same (omega arith)
counted-row point (suc r) (x ∷ xs) e there = let rest = counted-row point r xs e there in omega (arith, rest)

pub cursor-there : (point r : ℕ) (es : List EntryMeaning) (e : EntryMeaning) (k : ℕ) (b : Begin) → count_at point es ≤ 1 → slice_get es r ≡ Some e → slice_get e.row.begins k ≡ Some b → covers e.start point b ≡ true
    → cursor_in point es ≡ Some (r, shown_column e.row b.column)
cursor-there point r [] e k b few there place covered = absurd cc
cursor-there point zero (x ∷ xs) e k b few there place covered =
    let same : x ≡ e = cc in
    let here : count_by (covers x.start point) x.row.begins ≤ 1 = omega (arith, few) in
    let less : count_by (covers e.start point) e.row.begins ≤ 1 = subst (λ (y : EntryMeaning). count_by (covers y.start point) y.row.begins ≤ 1) same here in
    let found = found-one (covers e.start point) e.row.begins k b less place covered in
    let column : column_shown point e ≡ Some (shown_column e.row b.column) = rw found refl in
    ap (λ o. or_below o (cursor_in point xs)) (ap (column_shown point) same ∙ column)
cursor-there point (suc r) (x ∷ xs) e k b few there place covered =
    let some = place-counted (covers e.start point) e.row.begins k b place covered in
    let row = counted-row point r xs e there in
    let none : count_by (covers x.start point) x.row.begins ≡ 0 = omega (arith, few, some, row) in
    let rest : count_at point xs ≤ 1 = omega (arith, few) in
    let found = found-none (covers x.start point) x.row.begins none in
    let column : column_shown point x ≡ None = rw found refl in
    rw (column, cursor-there point r xs e k b rest there place covered) (ap (λ n. Some (n, shown_column e.row b.column)) (add-one r))

-- ---- the position at a row and a column

pub record IsHit (es : List EntryMeaning) (row column point : ℕ) : Type 0 where
  pub entry : EntryMeaning
  pub item : Begin
  pub there : slice_get es row ≡ Some entry
  pub cell : column < length entry.row.cells
  pub found : item_at (shown_column entry.row column) entry.row.begins ≡ Some item
  pub least : entry.start + item.from ≡ point

hit-column : (es : List EntryMeaning) (row column point : ℕ) (e : EntryMeaning) (q : Bool) (o : Option Begin) → slice_get es row ≡ Some e → nat_lt column (length e.row.cells) ≡ q
    → item_at (shown_column e.row column) e.row.begins ≡ o → option_map (λ b. e.start + b.from) (cond q o None) ≡ Some point → IsHit es row column point
hit-column es row column point e false o there cell found hit = absurd cc
hit-column es row column point e true None there cell found hit = absurd cc
hit-column es row column point e true (Some b) there cell found hit =
    record { entry = e; item = b; there = there; cell = let lt = cell in grind (arith, nat_tests); found = found; least = cc }

hit-parts : (es : List EntryMeaning) (row column point : ℕ) → hit_in es row column ≡ Some point → IsHit es row column point
hit-parts es row column point hit = by (slice_get es row) refl hit where
  by : (o : Option EntryMeaning) → slice_get es row ≡ o → option_and_then (λ e. least_at e column) o ≡ Some point → IsHit es row column point
  by None there hit = absurd cc
  by (Some e) there hit = hit-column es row column point e _ _ there refl refl hit

-- what is hit of a row that may not be there
hit-of : (es : List EntryMeaning) (row column : ℕ) (o : Option EntryMeaning) → slice_get es row ≡ o → hit_in es row column ≡ option_and_then (λ e. least_at e column) o
hit-of es row column o there = ap (option_and_then (λ (e : EntryMeaning). least_at e column)) there

hit-made : (es : List EntryMeaning) (row column : ℕ) (e : EntryMeaning) (b : Begin) → slice_get es row ≡ Some e → column < length e.row.cells → item_at (shown_column e.row column) e.row.begins ≡ Some b
    → hit_in es row column ≡ Some (e.start + b.from)
hit-made es row column e b there cell found =
    let lt : nat_lt column (length e.row.cells) ≡ true = grind (arith, nat_tests) in
    hit-of es row column (Some e) there ∙ rw (lt, found) refl

-- what the code needs

pub hit-outside : (es : List Entry) (row column : ℕ) → length es ≤ row → hit_in (shown_entries es) row column ≡ None
hit-outside es row column out = hit-of (shown_entries es) row column None (slice_get-map shown_entry es row ∙ ap (option_map shown_entry) (slice_get_past es row out))

pub hit-entry : (es : List Entry) (row column : ℕ) (e : Entry) → slice_get es row ≡ Some e → hit_in (shown_entries es) row column ≡ least_at (shown_entry e) column
hit-entry es row column e there = hit-of (shown_entries es) row column (Some (shown_entry e)) (entry-at es row e there)

pub fits-entry : (es : List Entry) (row : ℕ) (e : Entry) → AreInPositions (shown_entries es) → slice_get es row ≡ Some e → AreInRow (shown_entry e)
fits-entry es row e fits there = all-at AreInRow (shown_entries es) row (shown_entry e) fits (entry-at es row e there)

some-cell : (row : RowMeaning) (column : ℕ) (b : Begin) (q : Bool) → nat_lt column (length row.cells) ≡ q → item_of_cell row column ≡ Some b → item_at (shown_column row column) row.begins ≡ Some b
some-cell row column b true cell found = subst (λ (t : Bool). cond t (item_at (shown_column row column) row.begins) None ≡ Some b) cell found
some-cell row column b false cell found = let e : None ≡ Some b = subst (λ (t : Bool). cond t (item_at (shown_column row column) row.begins) None ≡ Some b) cell found in absurd cc

pub item-fits : (start : ℕ) (row : RowMeaning) (column : ℕ) (b : Begin) → All (Fits start) row.begins → item_of_cell row column ≡ Some b → start + b.from < 4294967296
item-fits start row column b fits found =
    let at = some-cell row column b _ refl found in
    let one = item-member (shown_column row column) row.begins b at in
    let some = (item-column (shown_column row column) row.begins b at).0 in
    let order : b.from < b.to = grind (arith, nat_tests) in
    let end : start + b.to < 4294967296 = all-at (Fits start) row.begins one.place b fits one.there in
    omega (arith, order, end)

-- a reading column and the cell in which it is shown

shown-read : (row : RowMeaning) (column : ℕ) (q : Bool) → row.reversed ≡ q → column < length row.cells → shown_column row (shown_column row column) ≡ column
shown-read row column false q low = rw q refl
shown-read row column true q low = rw q (omega (arith, low))

shown-in : (row : RowMeaning) (column : ℕ) (q : Bool) → row.reversed ≡ q → column < length row.cells → shown_column row column < length row.cells
shown-in row column false q low = rw q low
shown-in row column true q low = rw q (omega (arith, low))

covers-least : (start : ℕ) (b : Begin) → covers_some b ≡ true → covers start (start + b.from) b ≡ true
covers-least start b some =
    let low : nat_le (start + b.from) (start + b.from) ≡ true = grind (arith, nat_tests) in
    let high : nat_lt (start + b.from) (start + b.to) ≡ true = grind (arith, nat_tests) in
    rw (low, high) refl

covers-some : (start point : ℕ) (b : Begin) → covers start point b ≡ true → covers_some b ≡ true
covers-some start point b covered = let parts = covers-parts start point b covered in let low = parts.0 in let high = parts.1 in grind (arith, nat_tests)

pub comes-back : (m : SourceValues) (shape : ShapeValues) (es : List EntryMeaning) (row column point : ℕ) → IsSource m → IsShape shape → AreAdjacentRows m shape es → hit_in es row column ≡ Some point
    → (there : ℕ) × (cursor_in point es ≡ Some (row, there)) × (hit_in es row there ≡ Some point)
comes-back m shape es row column point source is rows hit =
    let h = hit-parts es row column point hit in
    let e : EntryMeaning = h.entry in
    let b : Begin = h.item in
    let one = item-member (shown_column e.row column) e.row.begins b h.found in
    let parts = item-column (shown_column e.row column) e.row.begins b h.found in
    let before = parts.1 in
    let cell = shown-in e.row column _ refl h.cell in
    let low : b.column < length e.row.cells = omega (arith, before, cell) in
    let covered : covers e.start point b ≡ true = subst (λ (p : ℕ). covers e.start p b ≡ true) h.least (covers-least e.start b parts.0) in
    let read = shown-read e.row b.column _ refl low in
    let again : item_at (shown_column e.row (shown_column e.row b.column)) e.row.begins ≡ Some b = ap (λ c. item_at c e.row.begins) read ∙ item-again (shown_column e.row column) e.row.begins b h.found in (
      shown_column e.row b.column,
      cursor-there point row es e one.place b (few-at m shape es point source is rows) h.there one.there covered,
      hit-made es row (shown_column e.row b.column) e b h.there (shown-in e.row b.column _ refl low) again ∙ ap Some h.least,
    )

abbrev second-of : Option (ℕ × ℕ) → ℕ
second-of None = 0
second-of (Some place) = place.1

pub shows-item : (m : SourceValues) (shape : ShapeValues) (es : List EntryMeaning) (row column point : ℕ) (e : EntryMeaning) (k : ℕ) (b : Begin) → IsSource m → IsShape shape → AreAdjacentRows m shape es
    → cursor_in point es ≡ Some (row, column) → slice_get es row ≡ Some e → slice_get e.row.begins k ≡ Some b → covers e.start point b ≡ true → b.column < length e.row.cells
    → count_by (begins_at (shown_column e.row column)) e.row.begins ≤ 1 → hit_in es row column ≡ Some (e.start + b.from)
shows-item m shape es row column point e k b source is rows cursor there place covered low alone =
    let at = cursor-there point row es e k b (few-at m shape es point source is rows) there place covered in
    let column-at : column ≡ shown_column e.row b.column = ap second-of (sym cursor ∙ at) in
    let read : b.column ≡ shown_column e.row column = sym (shown-read e.row b.column _ refl low) ∙ ap (shown_column e.row) (sym column-at) in
    let cell : column < length e.row.cells = subst (λ (c : ℕ). c < length e.row.cells) (sym column-at) (shown-in e.row b.column _ refl low) in
    hit-made es row column e b there cell (item-alone (shown_column e.row column) e.row.begins k b place (covers-some e.start point b covered) read alone)
