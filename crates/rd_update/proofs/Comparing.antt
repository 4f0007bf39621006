-- Rows that are compared cell by cell.
use Rattle.std.proofs.Common.{◌≡◌, inl, inr, ℕ, zero, suc, ◌-◌, ◌<◌, ◌≤◌, ◌&&◌, not, nat_lt, Bool, true, false, if◌then◌else◌, List, [], ◌∷◌, length, get_or, refl, sym, ap, ◌∙◌, arith, rules}
use Rattle.std.specs.Cmp.Lexicographic.{pointwise}
use Rattle.std.proofs.lemmas.Bool.{cases_lt}
use Rattle.std.proofs.lemmas.Bool.Decides.{nat_tests}
use Rattle.std.proofs.lemmas.List.{get_or-replicate, length-replicate}
use Rattle.rd_base.specs.contracts.cell.CellPartialEq.TheImpl.{eq-value}
use Rattle.rd_base.specs.Equals.{same_cell}
use Rattle.rd_base.specs.declared.cell.Cell.{Cell}
use Rattle.rd_base.specs.declared.cell.Cell.TheVariants.{Blank, First, Rest}
use Rattle.rd_term.specs.Pictures.{blank, blank_row}
use Rattle.rd_term.specs.Walks.{back_while}
use Rattle.rd_term.proofs.Walks.{back-le, back-stops, back-greatest}
use Rattle.rd_update.specs.Updates.{differs, end_before, end_of_differences, used}
use Rattle.rd_update.proofs.Intervals.{behind-last, last-differs}

-- `==` of two cells is their test
cells-same : (x y : Cell) → eq-value.it x y ≡ same_cell x y
cells-same (Blank f) (Blank g) = search rules
cells-same (First g f) (First h e) = search rules
cells-same Rest Rest = search rules
cells-same (Blank f) (First h k) = search rules
cells-same (Blank f) Rest = search rules
cells-same (First g f) (Blank k) = search rules
cells-same (First g f) Rest = search rules
cells-same Rest (Blank f) = search rules
cells-same Rest (First g f) = search rules

end-tells : (same : Bool) (end : ℕ) → nat_lt 0 (end_before same end) ≡ (if same then nat_lt 0 end else true)
end-tells true zero = refl
end-tells false zero = refl
end-tells true (suc end) = grind (arith, nat_tests)
end-tells false (suc end) = grind (arith, nat_tests)

pub differs-first : (x y : Cell) (xs ys : List Cell) → differs (x ∷ xs) (y ∷ ys) ≡ (if same_cell x y then differs xs ys else true)
differs-first x y xs ys = end-tells (same_cell x y) (end_of_differences xs ys)

not-both : (a b : Bool) → not (a && b) ≡ (if a then not b else true)
not-both true b = refl
not-both false b = refl

-- `!=` of two rows tells whether they differ
pub unequal-differ : (xs ys : List Cell) → length xs ≡ length ys → not (pointwise eq-value.it xs ys) ≡ differs xs ys
unequal-differ [] [] n = refl
unequal-differ [] (y ∷ ys) n = absurd (omega arith)
unequal-differ (x ∷ xs) [] n = absurd (omega arith)
unequal-differ (x ∷ xs) (y ∷ ys) n =
    not-both (eq-value.it x y) (pointwise eq-value.it xs ys)
    ∙ ap (λ b. if b then not (pointwise eq-value.it xs ys) else true) (cells-same x y)
    ∙ ap (λ b. if same_cell x y then b else true) (unequal-differ xs ys (omega arith))
    ∙ sym (differs-first x y xs ys)

-- ---- from where a row is blank and plain to its end

-- a walk back from the end of the row over cells that are blank and plain ends there: it stops at no blank cell, and passes no other
pub used-back : (row : List Cell) (end : ℕ) → used row ≤ end → end ≤ length row → back_while (λ column. same_cell blank (get_or row (column - 1) blank)) end ≡ used row
used-back row end le within =
    let test : ℕ → Bool = λ column. same_cell blank (get_or row (column - 1) blank) in
    let stop = back_while test end in
    let at = λ (k : ℕ) (lt : k < length row). ap (λ c. same_cell c (get_or row k blank)) (sym (get_or-replicate (length row) k blank blank lt)) in
    let least : used row ≤ back_while test end = elim (cases_lt 0 (used row)) [
      | inl some ↦
          let next : suc (used row - 1) ≡ used row = omega (arith, some) in
          back-greatest test (used row) end (at (used row - 1) (omega (arith, some, le, within)) ∙ last-differs same_cell blank (blank_row (length row)) row (used row - 1) next) le
      | inr none ↦ omega (arith, none)
    ] in
    let most : back_while test end ≤ used row = elim (back-stops test end) [
      | inl none ↦ omega (arith, none)
      | inr fails ↦ elim (cases_lt (used row) (back_while test end)) [
        | inl past ↦ absurd (
            let lt : stop - 1 < length row = omega (arith, past, within, back-le test end) in
            let same = at (stop - 1) lt ∙ behind-last same_cell (stop - 1) blank (blank_row (length row)) row (length-replicate (length row) blank) lt (omega (arith, past)) in
            let f : true ≡ false = sym same ∙ fails in cc)
        | inr ge ↦ ge
      ]
    ] in
    omega (arith, least, most)
