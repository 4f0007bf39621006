-- The rows of a block, added one by one.
use Rattle.std.proofs.Common.{◌≡◌, ℕ, zero, suc, ◌+◌, ◌-◌, ◌<◌, ◌≤◌, ◌&&◌, inl, inr, Bool, true, false, if◌then◌else◌, leb, ltb, List, [], ◌∷◌, ◌++◌, length, take, drop, slice_get, All, fold, Some, refl, sym, ap, ◌∙◌, subst, arith}
use Rattle.std.proofs.lemmas.Bool.{and_from, and_left, and_right, cases_Bool, leb-true, leb-false, ltb-true, ltb-false}
use Rattle.std.proofs.lemmas.List.{append-nil, append_assoc, length_push}
use Rattle.std.proofs.lemmas.List.Elements.{All-cons, All-nil}
use Rattle.std.proofs.lemmas.List.Sums.{fold-append}
use Rattle.rd_matrix.specs.Entries.{numbered, shown_entries}
use Rattle.rd_matrix.specs.declared.matrix.Entry.{Entry}
use Rattle.rd_reuse.specs.Laying.{placed, with_row}
use Rattle.rd_rows.specs.Copies.{RowValues, shown_rows}

-- rows to which others were added
abbrev pub with_rows : ℕ → ℕ → List Entry → List Entry → List Entry
with_rows first most = fold (with_row first most)

pub placed-last : (start number : ℕ) (rows : List RowValues) (r : RowValues)
    → placed start number (rows ++ r ∷ []) ≡ placed start number rows ++ record { start = start; number = number + length rows; row = r } ∷ []
placed-last start number [] r =
    let same : number ≡ number + 0 = omega arith in
    ap (λ (n : ℕ). record { start = start; number = n; row = r } ∷ []) same
placed-last start number (x ∷ rows) r =
    let same : number + 1 + length rows ≡ number + length (x ∷ rows) = omega arith in
    ap (λ es. record { start = start; number = number; row = x } ∷ es)
    (placed-last start (number + 1) rows r ∙ ap (λ (n : ℕ). placed start (number + 1) rows ++ record { start = start; number = n; row = r } ∷ []) same)

-- one row more, as the loop adds it
pub one-more : (first most start : ℕ) (old : List Entry) (rows : List RowValues) (r : RowValues) (now new : List Entry) (number : ℕ) → number ≡ length rows
    → with_rows first most old (placed start 0 rows) ≡ now → new ≡ with_row first most now (record { start = start; number = number; row = r })
    → with_rows first most old (placed start 0 (rows ++ r ∷ [])) ≡ new
one-more first most start old rows r now new number at is added =
    let same : 0 + length rows ≡ number = omega (arith, at) in
    ap (with_rows first most old) (placed-last start 0 rows r)
    ∙ (fold-append (with_row first most) old (placed start 0 rows) (record { start = start; number = 0 + length rows; row = r } ∷ [])
    ∙ (ap (λ (n : ℕ). with_row first most (with_rows first most old (placed start 0 rows)) (record { start = start; number = n; row = r })) same
    ∙ (ap (λ es. with_row first most es (record { start = start; number = number; row = r })) is ∙ sym added)))

pub none-added : {X : Type 0} (n k : ℕ) (rows : List X) → rows ≡ rows ++ take n (drop k [])
none-added zero k rows = sym (append-nil rows)
none-added (suc n) zero rows = sym (append-nil rows)
none-added (suc n) (suc k) rows = sym (append-nil rows)

with-wanted : (first most number : ℕ) (rows : List Entry) (e : Entry) → e.number ≡ number → (leb first number && ltb (length rows) most) ≡ true → with_row first most rows e ≡ rows ++ e ∷ []
with-wanted first most number rows e is both =
    ap (λ (n : ℕ). if leb first n && ltb (length rows) most then rows ++ e ∷ [] else rows) is ∙ ap (λ (b : Bool). if b then rows ++ e ∷ [] else rows) both

with-other : (first most number : ℕ) (rows : List Entry) (e : Entry) → e.number ≡ number → (leb first number && ltb (length rows) most) ≡ false → with_row first most rows e ≡ rows
with-other first most number rows e is both =
    ap (λ (n : ℕ). if leb first n && ltb (length rows) most then rows ++ e ∷ [] else rows) is ∙ ap (λ (b : Bool). if b then rows ++ e ∷ [] else rows) both

row-if : (most : ℕ) (rows : List Entry) (e : Entry) (a b : Bool) → length rows ≤ most → (b ≡ true → length rows < most) → length (if a && b then rows ++ e ∷ [] else rows) ≤ most
row-if most rows e true true low room = let size = length_push rows e in let more = room refl in omega (arith, size, more)
row-if most rows e true false low room = low
row-if most rows e false b low room = low

-- the rows are no more than are wanted, once another one was met
pub row-room : (first most : ℕ) (rows : List Entry) (e : Entry) → length rows ≤ most → length (with_row first most rows e) ≤ most
row-room first most rows e low = row-if most rows e (leb first e.number) (ltb (length rows) most) low (λ room. ltb-true (length rows) most room)

-- the rows that were added: those from `first` on, as far as there was room
pub rows-added : (first most start number : ℕ) (old : List Entry) (rows : List RowValues) → length old ≤ most
    → with_rows first most old (placed start number rows) ≡ old ++ take (most - length old) (drop (first - number) (placed start number rows))
rows-added first most start number old [] low = none-added (most - length old) (first - number) old
rows-added first most start number old (r ∷ rows) low =
    let e : Entry = record { start = start; number = number; row = r } in
    let es = placed start (number + 1) rows in
    elim (cases_Bool (leb first number)) as (λ _. with_rows first most (with_row first most old e) es ≡ old ++ take (most - length old) (drop (first - number) (e ∷ es))) [
      | inl wanted ↦
          let from = leb-true first number wanted in
          elim (cases_Bool (ltb (length old) most)) as (λ _. with_rows first most (with_row first most old e) es ≡ old ++ take (most - length old) (drop (first - number) (e ∷ es))) [
            | inl room ↦
                let low' = ltb-true (length old) most room in
                let size = length_push old e in
                let rest = rows-added first most start (number + 1) (old ++ e ∷ []) rows (omega (arith, low', size)) in
                let none : first - (number + 1) ≡ 0 = omega (arith, from) in
                let here : first - number ≡ 0 = omega (arith, from) in
                let left : most - length old ≡ suc (most - length (old ++ e ∷ [])) = omega (arith, low', size) in
                ap (λ rs. with_rows first most rs es) (with-wanted first most number old e refl (and_from (leb first number) (ltb (length old) most) wanted room))
                ∙ (rest
                ∙ (ap (λ k. (old ++ e ∷ []) ++ take (most - length (old ++ e ∷ [])) (drop k es)) none
                ∙ (append_assoc old (e ∷ []) (take (most - length (old ++ e ∷ [])) es)
                ∙ sym (ap (λ k. old ++ take (most - length old) (drop k (e ∷ es))) here ∙ ap (λ k. old ++ take k (e ∷ es)) left))))
            | inr full ↦
                let high = ltb-false (length old) most full in
                let none : most - length old ≡ 0 = omega (arith, high) in
                ap (λ rs. with_rows first most rs es) (with-other first most number old e refl (and_right (leb first number) (ltb (length old) most) full))
                ∙ (rows-added first most start (number + 1) old rows low
                ∙ (ap (λ k. old ++ take k (drop (first - (number + 1)) es)) none ∙ sym (ap (λ k. old ++ take k (drop (first - number) (e ∷ es))) none)))
          ]
      | inr early ↦
          let high = leb-false first number early in
          let next : suc (first - (number + 1)) ≡ first - number = omega (arith, high) in
          ap (λ rs. with_rows first most rs es) (with-other first most number old e refl (and_left (leb first number) (ltb (length old) most) early))
          ∙ (rows-added first most start (number + 1) old rows low ∙ ap (λ k. old ++ take (most - length old) (drop k (e ∷ es))) next)
    ]

-- what is seen of the rows of a block
pub shown-placed : (start number : ℕ) (rows : List RowValues) → shown_entries (placed start number rows) ≡ numbered start number (shown_rows rows)
shown-placed start number [] = refl
shown-placed start number (r ∷ rows) = ap (λ es. record { start = start; number = number; row = r.shown } ∷ es) (shown-placed start (number + 1) rows)

-- what is true of each row of a block
pub all-placed : (P : Entry → Type 0) (start number : ℕ) (rows : List RowValues)
    → ((j : ℕ) (r : RowValues) → slice_get rows j ≡ Some r → P (record { start = start; number = number + j; row = r })) → All P (placed start number rows)
all-placed P start number [] each = All-nil P
all-placed P start number (r ∷ rows) each =
    let same : number + 0 ≡ number = omega arith in
    All-cons P (record { start = start; number = number; row = r }) (placed start (number + 1) rows)
    (subst (λ (n : ℕ). P (record { start = start; number = n; row = r })) same (each 0 r refl))
    (all-placed P start (number + 1) rows (λ j x at.
    let next : number + suc j ≡ number + 1 + j = omega arith in
    subst (λ (n : ℕ). P (record { start = start; number = n; row = x })) next (each (suc j) x at)))
