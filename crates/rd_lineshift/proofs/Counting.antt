-- Rows that are counted by their numbers.
use Rattle.std.proofs.Common.{◌≡◌, ℕ, zero, suc, ◌+◌, ◌<◌, ◌==◌, Bool, true, false, not, if◌then◌else◌, List, [], ◌∷◌, ◌++◌, length, get_or, map, refl, sym, ap, ap₂, ◌∙◌, arith}
use Rattle.std.specs.List.{AllByRecursion}
use Rattle.std.proofs.lemmas.Bool.{eq-eqb, eqb-true}
use Rattle.std.proofs.lemmas.Bool.Decides.{nat_tests}
use Rattle.std.proofs.lemmas.List.{get_or_default}
use Rattle.std.proofs.lemmas.List.Elements.{recursion_from_All}
use Rattle.rd_base.specs.declared.cell.Cell.{Cell}
use Rattle.rd_update.specs.Updates.{differs, differing}
use Rattle.rd_update.proofs.Spans.{no-difference}
use Rattle.rd_lineshift.specs.Numbers.{number_in, unlike}
use Rattle.rd_lineshift.proofs.Sameness.{differs-itself, is-apart, is-test}

-- ---- places at which numbers differ

append-step : (same : Bool) (m n : ℕ) → (if same then m + n else suc (m + n)) ≡ (if same then m else suc m) + n
append-step true m n = refl
append-step false m n = omega arith

pub unlike-append : (a b c d : List ℕ) → length a ≡ length c → unlike (a ++ b) (c ++ d) ≡ unlike a c + unlike b d
unlike-append [] b [] d e = omega arith
unlike-append [] b (y ∷ c) d e = absurd (omega arith)
unlike-append (x ∷ a) b [] d e = absurd (omega arith)
unlike-append (x ∷ a) b (y ∷ c) d e =
    let ih = unlike-append a b c d (omega arith) in
    ap (λ n. if x == y then n else suc n) ih ∙ append-step (x == y) (unlike a c) (unlike b d)

-- ---- rows of equal numbers are the same

-- a row is one of some rows
abbrev pub IsIn : List Cell → List (List Cell) → Type 0
IsIn row rows = (k : ℕ) × (k < length rows) × (row ≡ get_or rows k [])

pub all-in : (rows : List (List Cell)) → AllByRecursion (λ y. IsIn y rows) rows
all-in rows = recursion_from_All (λ y. IsIn y rows) rows (λ k d lt. (k, lt, get_or_default rows k d [] lt))

number-step : (p q : Bool) (r x y : List Cell) (m n : ℕ) → differs r x ≡ p → differs r y ≡ q → length r ≡ length x → length r ≡ length y → length x ≡ length y
    → (q ≡ true → (m == n) ≡ not (differs x y)) → ((if p then suc m else 0) == (if q then suc n else 0)) ≡ not (differs x y)
number-step true true r x y m n e f a b c h =
    let next = is-test (suc m) (suc n) (m == n) (λ g. eq-eqb m n (omega (arith, g))) (λ t. ap suc (eqb-true m n t)) in
    next ∙ h refl
number-step true false r x y m n e f a b c h =
    let here : y ≡ r = no-difference r y b f in
    let apart : (suc m == 0) ≡ false = grind (arith, nat_tests) in
    apart ∙ is-apart (differs x y) (λ same.
    let t : differs r x ≡ false = ap (λ z. differs z x) (sym here ∙ no-difference x y c same) ∙ differs-itself x in
    let u : true ≡ false = sym e ∙ t in
    absurd (cc))
number-step false true r x y m n e f a b c h =
    let here : x ≡ r = no-difference r x a e in
    let apart : (0 == suc n) ≡ false = grind (arith, nat_tests) in
    apart ∙ sym (ap not (ap (λ z. differs z y) here ∙ f))
number-step false false r x y m n e f a b c h =
    let here : x ≡ r = no-difference r x a e in
    let there : y ≡ r = no-difference r y b f in
    sym (ap not (ap₂ differs here there ∙ differs-itself r))

behind-at : (r : List Cell) (rows : List (List Cell)) (y : List Cell) (k : ℕ) → k < length (r ∷ rows) → y ≡ get_or (r ∷ rows) k [] → differs r y ≡ true → IsIn y rows
behind-at r rows y zero lt e t =
    let no : true ≡ false = sym t ∙ ap (differs r) e ∙ differs-itself r in
    absurd (cc)
behind-at r rows y (suc k) lt e t = (k, omega arith, e)

behind : (r : List Cell) (rows : List (List Cell)) (y : List Cell) → IsIn y (r ∷ rows) → differs r y ≡ true → IsIn y rows
behind r rows y h t = behind-at r rows y h.0 h.1 h.2 t

pub same-number : (w : ℕ) (rows : List (List Cell)) (x y : List Cell) → AllByRecursion (λ r. length r ≡ w) rows → length x ≡ w → length y ≡ w → IsIn y rows
    → (number_in rows x == number_in rows y) ≡ not (differs x y)
same-number w [] x y wide a b h = absurd (let lt = h.1 in omega arith)
same-number w (r ∷ rows) x y wide a b h =
    number-step (differs r x) (differs r y) r x y (number_in rows x) (number_in rows y) refl refl (wide.0 ∙ sym a) (wide.0 ∙ sym b) (a ∙ sym b)
    (λ t. same-number w rows x y wide.1 a b (behind r rows y h t))

counted-step : (s d : Bool) (m n : ℕ) → s ≡ not d → m ≡ n → (if s then m else suc m) ≡ (if d then suc n else n)
counted-step true true m n e f = absurd (cc)
counted-step true false m n e f = f
counted-step false true m n e f = ap suc f
counted-step false false m n e f = absurd (cc)

pub counted : (w : ℕ) (rows xs ys : List (List Cell)) → AllByRecursion (λ r. length r ≡ w) rows → AllByRecursion (λ r. length r ≡ w) xs → AllByRecursion (λ r. length r ≡ w) ys
    → AllByRecursion (λ y. IsIn y rows) ys → unlike (map (number_in rows) xs) (map (number_in rows) ys) ≡ differing xs ys
counted w rows [] [] wide a b h = refl
counted w rows [] (y ∷ ys) wide a b h = refl
counted w rows (x ∷ xs) [] wide a b h = refl
counted w rows (x ∷ xs) (y ∷ ys) wide a b h =
    counted-step (number_in rows x == number_in rows y) (differs x y) (unlike (map (number_in rows) xs) (map (number_in rows) ys)) (differing xs ys)
    (same-number w rows x y wide a.0 b.0 h.0) (counted w rows xs ys wide a.1 b.1 h.1)
