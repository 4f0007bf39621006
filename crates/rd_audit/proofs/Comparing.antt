-- A dump and a terminal, compared cell by cell.
use Rattle.std.proofs.Common.{◌≡◌, ℕ, ◌+◌, ◌<◌, ◌≤◌, ◌⊎◌, inl, inr, Bool, true, false, if◌then◌else◌, Option, None, Some, is_some, List, [], ◌∷◌, length, map, get_or, drop, refl, sym, ap, ap₂, ◌∙◌, arith, true≢false}
use Rattle.std.proofs.lemmas.Bool.{cases_lt}
use Rattle.std.proofs.lemmas.List.{drop_more, drop_all, get_or_past}
use Rattle.std.proofs.lemmas.Option.{none-some}
use Rattle.rd_base.proofs.Equals.{cell-told}
use Rattle.rd_base.specs.declared.cell.Cell.{Cell}
use Rattle.rd_term.specs.Terminals.{known}
use Rattle.rd_audit.specs.Verdicts.{is_known, other_column, place_or, other_place}

-- ---- the walks

known-within : (i : ℕ) (cell : Cell) (others : List (Option Cell)) → is_known cell (get_or others i None) ≡ true → (i < length others) ⊎ (length others ≤ i) → i < length others
known-within i cell others at (inl less) = less
known-within i cell others at (inr past) = absurd (true≢false (sym at ∙ ap (is_known cell) (get_or_past others i None past)))

pub column-on : (i : ℕ) (d : Cell) (cells : List Cell) (others : List (Option Cell)) (whole : Option ℕ) → i < length cells
    → is_known (get_or cells i d) (get_or others i None) ≡ true → other_column i (drop i cells) (drop i others) ≡ whole
    → other_column (i + 1) (drop (i + 1) cells) (drop (i + 1) others) ≡ whole
column-on i d cells others whole less at inv =
    let there = known-within i (get_or cells i d) others at (cases_lt i (length others)) in
    sym (ap₂ (λ xs ys. other_column i xs ys) (drop_more cells i d less) (drop_more others i None there)
    ∙ ap (λ t. if t then other_column (i + 1) (drop (i + 1) cells) (drop (i + 1) others) else Some i) at)
    ∙ inv

pub column-more : (i : ℕ) (cells : List Cell) (others : List (Option Cell)) (whole : Option ℕ) → i ≤ length cells → length cells ≤ i → length cells < length others
    → other_column i (drop i cells) (drop i others) ≡ whole → Some (length cells) ≡ whole
column-more i cells others whole to past less inv =
    let same : length cells ≡ i = omega (arith, to, past) in
    ap Some same ∙ sym (ap₂ (λ xs ys. other_column i xs ys) (drop_all i cells past) (drop_more others i None (omega (arith, less, same)))) ∙ inv

abbrev pub place_at : ℕ → Option (ℕ × ℕ)
place_at row = Some (row, 0)

pub place-missing : (i : ℕ) (rows : List (List Cell)) (others : List (List (Option Cell))) (whole : Option (ℕ × ℕ)) → i < length rows → length others ≤ i
    → other_place i (drop i rows) (drop i others) ≡ whole → place_at i ≡ whole
place-missing i rows others whole less past inv =
    sym (ap₂ (λ xs ys. other_place i xs ys) (drop_more rows i [] less) (drop_all i others past)) ∙ inv

pub place-more : (i : ℕ) (rows : List (List Cell)) (others : List (List (Option Cell))) (whole : Option (ℕ × ℕ)) → i ≤ length rows → length rows ≤ i → length rows < length others
    → other_place i (drop i rows) (drop i others) ≡ whole → place_at (length rows) ≡ whole
place-more i rows others whole to past less inv =
    let same : length rows ≡ i = omega (arith, to, past) in
    ap place_at same ∙ sym (ap₂ (λ xs ys. other_place i xs ys) (drop_all i rows past) (drop_more others i [] (omega (arith, less, same)))) ∙ inv

-- ---- where nothing differs

known-told : (cell : Cell) (o : Option Cell) → is_known cell o ≡ true → o ≡ Some cell
known-told cell None e = absurd (true≢false (sym e))
known-told cell (Some other) e = ap Some (cell-told other cell e)

row-step : (column : ℕ) (cell : Cell) (o : Option Cell) (cells : List Cell) (os : List (Option Cell)) (t : Bool) → is_known cell o ≡ t
    → (other_column (column + 1) cells os ≡ None → os ≡ map Some cells)
    → (if t then other_column (column + 1) cells os else Some column) ≡ None → o ∷ os ≡ Some cell ∷ map Some cells
row-step column cell o cells os true test so e = ap₂ (λ x xs. x ∷ xs) (known-told cell o test) (so e)
row-step column cell o cells os false test so e = absurd (none-some column (sym e))

row-same : (column : ℕ) (cells : List Cell) (os : List (Option Cell)) → other_column column cells os ≡ None → os ≡ map Some cells
row-same column [] [] e = refl
row-same column [] (o ∷ os) e = absurd (none-some column (sym e))
row-same column (cell ∷ cells) [] e = absurd (none-some column (sym e))
row-same column (cell ∷ cells) (o ∷ os) e = row-step column cell o cells os (is_known cell o) refl (row-same (column + 1) cells os) e

place-step : (row : ℕ) (cells : List Cell) (other : List (Option Cell)) (rows : List (List Cell)) (others : List (List (Option Cell))) (o : Option ℕ) → other_column 0 cells other ≡ o
    → (other_place (row + 1) rows others ≡ None → others ≡ known rows)
    → place_or row o (other_place (row + 1) rows others) ≡ None → other ∷ others ≡ map Some cells ∷ known rows
place-step row cells other rows others None test so e = ap₂ (λ x xs. x ∷ xs) (row-same 0 cells other test) (so e)
place-step row cells other rows others (Some column) test so e = absurd (true≢false (ap is_some e))

pub rows-same : (row : ℕ) (rows : List (List Cell)) (others : List (List (Option Cell))) → other_place row rows others ≡ None → others ≡ known rows
rows-same row [] [] e = refl
rows-same row [] (other ∷ others) e = absurd (true≢false (ap is_some e))
rows-same row (cells ∷ rows) [] e = absurd (true≢false (ap is_some e))
rows-same row (cells ∷ rows) (other ∷ others) e = place-step row cells other rows others (other_column 0 cells other) refl (rows-same (row + 1) rows others) e
