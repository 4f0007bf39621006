-- Where two rows differ: what is before the first difference, behind the last one, and blank to the end.
use Rattle.std.proofs.Common.{◌≡◌, if◌then◌else◌, ◌⊎◌, inl, inr, ◌||◌, ℕ, zero, suc, ◌+◌, ◌-◌, ◌<◌, ◌≤◌, Bool, true, false, List, [], ◌∷◌, ◌++◌, length, get_or, map, take, drop, replicate, None, Some, refl, sym, ap, ap₂, ◌∙◌, arith}
use Rattle.std.proofs.lemmas.Bool.{or_parts}
use Rattle.std.proofs.lemmas.Bool.Decides.{nat_tests}
use Rattle.std.proofs.lemmas.List.{take-append-drop, drop-drop, drop-replicate, length-replicate, get_or-map, get_or_past}
use Rattle.std.proofs.lemmas.List.Folds.{drop_split}
use Rattle.rd_base.specs.declared.cell.Cell.{Cell}
use Rattle.rd_base.specs.declared.cell.Cell.TheVariants.{Blank, First, Rest}
use Rattle.rd_term.specs.Pictures.{blank, blank_row}
use Rattle.rd_term.specs.Overwriting.{is_later, later_columns, first_column}
use Rattle.rd_base.specs.Equals.{same_cell}
use Rattle.rd_base.proofs.Equals.{cell-told}
use Rattle.rd_term.proofs.Walks.{back-le, on-stops}
use Rattle.rd_update.specs.Updates.{first_difference, end_before, end_unlike, end_of_differences, used, differs, is_rest, goes_on, begin_before, end_of}

-- ---- before the first difference and behind the last

front-step : (same : Bool) (x y : Cell) (n : ℕ) (xs ys : List Cell) → (same ≡ true → x ≡ y) → take n ys ≡ take n xs
    → take (if same then suc n else 0) (y ∷ ys) ≡ take (if same then suc n else 0) (x ∷ xs)
front-step true x y n xs ys e h = let here = e refl in cc
front-step false x y n xs ys e h = refl

pub front-same : (old new : List Cell) → take (first_difference old new) new ≡ take (first_difference old new) old
front-same [] [] = refl
front-same [] (y ∷ ys) = refl
front-same (x ∷ xs) [] = refl
front-same (x ∷ xs) (y ∷ ys) = front-step (same_cell x y) x y (first_difference xs ys) xs ys (cell-told x y) (front-same xs ys)

back-step : (same : Bool) (x y : Cell) (n : ℕ) (xs ys : List Cell) → (same ≡ true → x ≡ y) → drop n ys ≡ drop n xs
    → drop (end_before same n) (y ∷ ys) ≡ drop (end_before same n) (x ∷ xs)
back-step true x y zero xs ys e h = let here = e refl in cc
back-step false x y zero xs ys e h = h
back-step true x y (suc n) xs ys e h = h
back-step false x y (suc n) xs ys e h = h

pub back-same : (old new : List Cell) → length old ≡ length new → drop (end_of_differences old new) new ≡ drop (end_of_differences old new) old
back-same [] [] n = refl
back-same [] (y ∷ ys) n = absurd (cc)
back-same (x ∷ xs) [] n = absurd (cc)
back-same (x ∷ xs) (y ∷ ys) n =
    back-step (same_cell x y) x y (end_of_differences xs ys) xs ys (cell-told x y) (back-same xs ys (omega arith))

-- rows that do not differ are the same
pub no-difference : (old new : List Cell) → length old ≡ length new → differs old new ≡ false → new ≡ old
no-difference old new n d =
    let none : end_of_differences old new ≡ 0 = grind (arith, nat_tests) in
    let e = back-same old new n in
    let f : drop 0 new ≡ drop 0 old = rw none at e in
    f

first-step : (same : Bool) (first end : ℕ) → (0 < end → first < end) → 0 < end_before same end → (if same then suc first else 0) < end_before same end
first-step true first zero h p = absurd (omega arith)
first-step false first zero h p = omega arith
first-step true first (suc end) h p = omega (arith, h (omega arith))
first-step false first (suc end) h p = omega arith

pub first_before : (old new : List Cell) → 0 < end_of_differences old new → first_difference old new < end_of_differences old new
first_before [] [] p = absurd (omega arith)
first_before [] (y ∷ ys) p = absurd (omega arith)
first_before (x ∷ xs) [] p = absurd (omega arith)
first_before (x ∷ xs) (y ∷ ys) p = first-step (same_cell x y) (first_difference xs ys) (end_of_differences xs ys) (first_before xs ys) p

end-step : (same : Bool) (end n : ℕ) → end ≤ n → end_before same end ≤ suc n
end-step true zero n h = omega arith
end-step false zero n h = omega arith
end-step true (suc end) n h = omega arith
end-step false (suc end) n h = omega arith

-- from the end of the differences on nothing differs
pub behind-here : (same : Bool) (end : ℕ) → end_before same end ≤ 0 → same ≡ true
behind-here true end le = refl
behind-here false zero le = absurd (omega arith)
behind-here false (suc end) le = absurd (omega arith)

pub behind-step : (same : Bool) (end k : ℕ) → end_before same end ≤ suc k → end ≤ k
behind-step true zero k le = omega arith
behind-step false zero k le = omega arith
behind-step true (suc end) k le = omega arith
behind-step false (suc end) k le = omega arith

-- the last that differs is the first of all, where none behind it differs, or the last of those behind it
pub last-step : (D : ℕ → Type 0) (same : Bool) (end j : ℕ) → (same ≡ false → D 0) → ((k : ℕ) → suc k ≡ end → D (suc k)) → suc j ≡ end_before same end → D j
last-step D true zero j here behind p = absurd (omega arith)
last-step D false zero zero here behind p = here refl
last-step D false zero (suc j) here behind p = absurd (omega arith)
last-step D same (suc end) zero here behind p = absurd (omega arith)
last-step D same (suc end) (suc j) here behind p = behind j (omega arith)

pub end_within : {X : Type 0} (same : X → X → Bool) (old new : List X) → end_unlike same old new ≤ length new
end_within same [] [] = omega arith
end_within same [] (y ∷ ys) = omega arith
end_within same (x ∷ xs) [] = omega arith
end_within same (x ∷ xs) (y ∷ ys) = end-step (same x y) (end_unlike same xs ys) (length ys) (end_within same xs ys)

-- from the column from which a row is blank it is blank
pub blank-from : (row : List Cell) (k : ℕ) → used row ≤ k → drop k row ≡ replicate (length row - k) blank
blank-from row k le =
    let n : length (blank_row (length row)) ≡ length row = length-replicate (length row) blank in
    let same = back-same (blank_row (length row)) row n in
    let sum : used row + (k - used row) ≡ k = omega arith in
    sym (ap (λ j. drop j row) sum) ∙ sym (drop-drop (k - used row) (used row) row)
    ∙ ap (drop (k - used row)) same
    ∙ drop-drop (k - used row) (used row) (blank_row (length row))
    ∙ ap (λ j. drop j (blank_row (length row))) sum
    ∙ drop-replicate k (length row) blank

-- a list in three parts
pub three-parts : {A : Type 0} (a m : ℕ) (xs : List A) → a ≤ m → take a xs ++ (take (m - a) (drop a xs) ++ drop m xs) ≡ xs
three-parts a m xs le = ap (λ ys. take a xs ++ ys) (sym (drop_split xs a m le)) ∙ take-append-drop a xs

-- ---- where a character goes on

pub begin-le : (old new : List Cell) (column : ℕ) → begin_before old new column ≤ column
begin-le old new column = back-le (goes_on old new) column

-- no character goes on at the end of the interval
pub end-is : (old new : List Cell) → length old ≡ length new → goes_on old new (end_of old new) ≡ false
end-is old new same =
    let end = end_of_differences old new in
    let within = end_within same_cell old new in
    let last : end + (length new - end) ≡ length new = omega arith in
    on-stops (goes_on old new) end (length new - end)
    (ap (goes_on old new) last ∙ ap₂ (λ a b. is_rest a || is_rest b) (get_or_past old (length new) blank (omega arith)) (get_or_past new (length new) blank (omega arith)))

-- ---- cells that begin with no later column

whole-from : (column : ℕ) (cells : List Cell) → is_rest (get_or cells column blank) ≡ false → later_columns (map Some (drop column cells)) ≡ 0
whole-from zero [] e = refl
whole-from (suc column) [] e = refl
whole-from zero (Blank f ∷ cells) e = refl
whole-from zero (First g f ∷ cells) e = refl
whole-from zero (Rest ∷ cells) e = absurd (cc)
whole-from (suc column) (x ∷ cells) e = whole-from column cells e

-- where no character goes on, both rows go on with none
pub at-whole : (old new : List Cell) (column : ℕ) → goes_on old new column ≡ false
    → (later_columns (map Some (drop column old)) ≡ 0) × (later_columns (map Some (drop column new)) ≡ 0)
at-whole old new column e =
    let both = or_parts (is_rest (get_or old column blank)) (is_rest (get_or new column blank)) e in
    (whole-from column old both.0, whole-from column new both.1)

is-later-some : (x : Cell) → is_later (Some x) ≡ is_rest x
is-later-some (Blank f) = refl
is-later-some (First g f) = refl
is-later-some Rest = refl

-- the character at the interval's begin begins there
pub begin-first : (old new : List Cell) (column : ℕ) → column < length old → (column ≡ 0) ⊎ (goes_on old new column ≡ false) → first_column (map Some old) column ≡ column
begin-first old new zero p h = refl
begin-first old new (suc column) p (inl e) = absurd (cc)
begin-first old new (suc column) p (inr e) =
    let both = or_parts (is_rest (get_or old (suc column) blank)) (is_rest (get_or new (suc column) blank)) e in
    let at : get_or (map Some old) (suc column) None ≡ Some (get_or old (suc column) blank) = get_or-map Some old (suc column) blank None p in
    let not : is_later (get_or (map Some old) (suc column) None) ≡ false = ap is_later at ∙ is-later-some (get_or old (suc column) blank) ∙ both.0 in
    rw not refl
