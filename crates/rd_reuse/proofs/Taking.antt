-- The older rows of a block, one after the other.
use Rattle.std.proofs.Common.{◌≡◌, ℕ, suc, ◌+◌, ◌-◌, ◌<◌, ◌&&◌, true, false, if◌then◌else◌, List, [], ◌∷◌, ◌++◌, length, Option, None, Some, refl, sym, ap, ◌∙◌, arith}
use Rattle.std.proofs.lemmas.Bool.{and_right}
use Rattle.std.proofs.lemmas.List.{append_assoc}
use Rattle.std.specs.List.{list_all}
use Rattle.rd_matrix.specs.declared.matrix.Entry.{Entry}
use Rattle.rd_reuse.specs.Keeping.{are_whole, copied_rows, entry_under, has_base, taken_from, up_to_end}
use Rattle.rd_reuse.specs.declared.change.Change.{Change}
use Rattle.rd_rows.specs.Copies.{RowValues, copied, shown_rows}
use Rattle.rd_rows.specs.Laws.{ends_last}
use Rattle.rd_rows.specs.Rows.{RowMeaning}
use Rattle.rd_rows.specs.Shapes.{ShapeValues}

-- rows that are of no such base are not whole
based-not : (base : ℕ) (r : RowMeaning) (rs : List RowMeaning) → has_base base r ≡ false → are_whole base (r ∷ rs) ≡ false
based-not base r rs e = rw e (and_right (ends_last (r ∷ rs)) (false && list_all (has_base base) rs) refl)

ends-here : (base : ℕ) (r : RowMeaning) → has_base base r ≡ true → r.ends_block ≡ true → are_whole base (r ∷ []) ≡ true
ends-here base r e h = rw (h, e) refl

goes-on : (base : ℕ) (r : RowMeaning) (rs : List RowMeaning) → has_base base r ≡ true → r.ends_block ≡ false → are_whole base (r ∷ rs) ≡ are_whole base rs
goes-on base r [] e h = rw h refl
goes-on base r (s ∷ rs) e h = rw (h, e) refl

abbrev left : List Entry → Change → ℕ → ℕ → List RowValues
left old c start number = taken_from (length old - number) old c start number

-- at a number that has a row the rows that are left are that row and those behind it
step : (old : List Entry) (c : Change) (start number : ℕ) (o : Option Entry) → number < length old → entry_under old c start number ≡ o
    → left old c start number ≡ up_to_end o (left old c start (number + 1))
step old c start number o low e =
    let size : length old - number ≡ suc (length old - (number + 1)) = omega arith in
    ap (λ n. taken_from n old c start number) size ∙ ap (λ x. up_to_end x (left old c start (number + 1))) e

pub whole-none : (base : ℕ) (old : List Entry) (c : Change) (start number : ℕ) → number < length old → entry_under old c start number ≡ None
    → are_whole base (shown_rows (left old c start number)) ≡ false
whole-none base old c start number low e = ap (λ rs. are_whole base (shown_rows rs)) (step old c start number None low e)

pub whole-not : (base : ℕ) (old : List Entry) (c : Change) (start number : ℕ) (x : Entry) → number < length old → entry_under old c start number ≡ Some x
    → has_base base x.row.shown ≡ false → are_whole base (shown_rows (left old c start number)) ≡ false
whole-not base old c start number x low e h =
    ap (λ rs. are_whole base (shown_rows rs)) (step old c start number (Some x) low e) ∙ based-not base x.row.shown _ h

pub whole-ends : (base : ℕ) (old : List Entry) (c : Change) (start number : ℕ) (x : Entry) → number < length old → entry_under old c start number ≡ Some x
    → has_base base x.row.shown ≡ true → x.row.shown.ends_block ≡ true → are_whole base (shown_rows (left old c start number)) ≡ true
whole-ends base old c start number x low e h t =
    ap (λ rs. are_whole base (shown_rows rs)) (step old c start number (Some x) low e)
    ∙ (ap (λ b. are_whole base (shown_rows (x.row ∷ (if b then [] else left old c start (number + 1))))) t ∙ ends-here base x.row.shown h t)

pub whole-more : (base : ℕ) (old : List Entry) (c : Change) (start number : ℕ) (x : Entry) → number < length old → entry_under old c start number ≡ Some x
    → has_base base x.row.shown ≡ true → x.row.shown.ends_block ≡ false → are_whole base (shown_rows (left old c start (number + 1))) ≡ are_whole base (shown_rows (left old c start number))
whole-more base old c start number x low e h t =
    sym (ap (λ rs. are_whole base (shown_rows rs)) (step old c start number (Some x) low e)
    ∙ (ap (λ b. are_whole base (shown_rows (x.row ∷ (if b then [] else left old c start (number + 1))))) t
    ∙ goes-on base x.row.shown (shown_rows (left old c start (number + 1))) h t))

-- copies show the same
pub shown-copied : (rows : List RowValues) → shown_rows (copied_rows rows) ≡ shown_rows rows
shown-copied [] = refl
shown-copied (r ∷ rows) = ap (λ rs. r.shown ∷ rs) (shown-copied rows)

pub copies-more : (rows new : List RowValues) (old : List Entry) (c : Change) (start number : ℕ) (x : Entry) (r : RowValues) → number < length old → entry_under old c start number ≡ Some x
    → x.row.shown.ends_block ≡ false → r ≡ record { shown = x.row.shown; copies = copied x.row.copies } → new ≡ rows ++ r ∷ []
    → new ++ copied_rows (left old c start (number + 1)) ≡ rows ++ copied_rows (left old c start number)
copies-more rows new old c start number x r low e t is at =
    ap (λ rs. rs ++ copied_rows (left old c start (number + 1))) (at ∙ ap (λ y. rows ++ y ∷ []) is)
    ∙ (append_assoc rows (record { shown = x.row.shown; copies = copied x.row.copies } ∷ []) (copied_rows (left old c start (number + 1)))
    ∙ sym (ap (λ rs. rows ++ copied_rows rs) (step old c start number (Some x) low e)
    ∙ ap (λ b. rows ++ copied_rows (x.row ∷ (if b then [] else left old c start (number + 1)))) t))

-- the parts of a source with kept rows
pub kept-parts : {S : Type 0} (s : S) (old : List Entry) (c : Change) (shape : ShapeValues) (k : S × List Entry × Change × ShapeValues) → (s, old, c, shape) ≡ k
    → (s ≡ k.0) × (old ≡ k.1) × (c ≡ k.2) × (shape ≡ k.3)
kept-parts {S} s old c shape k e = (
  ap (λ (x : S × List Entry × Change × ShapeValues). x.0) e,
  ap (λ (x : S × List Entry × Change × ShapeValues). x.1) e,
  ap (λ (x : S × List Entry × Change × ShapeValues). x.2) e,
  ap (λ (x : S × List Entry × Change × ShapeValues). x.3) e,
)
