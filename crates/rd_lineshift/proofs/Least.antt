-- No shift costs less than the one that is taken.
use Rattle.std.proofs.Common.{◌≡◌, ℕ, ◌+◌, ◌<◌, ◌≤◌, nat_le, Bool, true, false, if◌then◌else◌, List, [], ◌∷◌, Option, None, Some, MatchOption, refl, sym, subst, arith, All}
use Rattle.std.specs.List.{AllByRecursion, flat_map}
use Rattle.std.proofs.lemmas.Bool.Decides.{nat_tests}
use Rattle.std.proofs.lemmas.List.Elements.{All-from_recursion}
use Rattle.rd_base.proofs.Lists.{each-weaker}
use Rattle.rd_term.specs.Pictures.{Picture}
use Rattle.rd_update.specs.Updates.{differing}
use Rattle.rd_lineshift.specs.Choices.{cheaper, cheapest, choice, cost, if_gains, shifts_of}
use Rattle.rd_lineshift.specs.declared.band.Band.{Band}
use Rattle.rd_lineshift.specs.declared.band.Shift.{Shift}

-- the least cost of some shifts, by the one that has it
abbrev IsLeast : (Shift → ℕ) → List Shift → Option Shift → Type 0
IsLeast f xs s = MatchOption s (xs ≡ []) (λ s. AllByRecursion (λ t. f s ≤ f t) xs)

least-if : (f : Shift → ℕ) (b : Bool) (x s : Shift) (xs : List Shift) → nat_le (f x) (f s) ≡ b → AllByRecursion (λ t. f s ≤ f t) xs → IsLeast f (x ∷ xs) (if b then Some x else Some s)
least-if f true x s xs e h =
    let le : f x ≤ f s = grind (arith, nat_tests) in
    (omega arith, each-weaker (λ t. f s ≤ f t) (λ t. f x ≤ f t) (λ t k. omega (arith, le, k)) xs h)
least-if f false x s xs e h =
    let le : f s ≤ f x = grind (arith, nat_tests) in
    (le, h)

least-step : (f : Shift → ℕ) (x : Shift) (xs : List Shift) (s : Option Shift) → IsLeast f xs s → IsLeast f (x ∷ xs) (cheaper f (Some x) s)
least-step f x xs None h = (omega arith, subst (λ ys. AllByRecursion (λ t. f x ≤ f t) ys) (sym h) tt)
least-step f x xs (Some s) h = least-if f (nat_le (f x) (f s)) x s xs refl h

least : (f : Shift → ℕ) (xs : List Shift) → IsLeast f xs (cheapest f xs)
least f [] = refl
least f (x ∷ xs) = least-step f x xs (cheapest f xs) (least f xs)

-- of what is taken of the least: it spares three of so many rows, and no shift costs less; where none is taken, each spares fewer
abbrev Tells : (Shift → ℕ) → ℕ → List Shift → Option Shift → Type 0
Tells f rows xs s = MatchOption s (AllByRecursion (λ t. rows < f t + 3) xs) (λ s. (f s + 3 ≤ rows) × AllByRecursion (λ t. f s ≤ f t) xs)

gains-if : (f : Shift → ℕ) (rows : ℕ) (xs : List Shift) (b : Bool) (r : Shift) → nat_le (f r + 3) rows ≡ b → AllByRecursion (λ t. f r ≤ f t) xs → Tells f rows xs (if b then Some r else None)
gains-if f rows xs true r e h = (grind (arith, nat_tests), h)
gains-if f rows xs false r e h =
    let lt : rows < f r + 3 = grind (arith, nat_tests) in
    each-weaker (λ t. f r ≤ f t) (λ t. rows < f t + 3) (λ t k. omega (arith, lt, k)) xs h

gains : (f : Shift → ℕ) (rows : ℕ) (xs : List Shift) (r : Option Shift) → IsLeast f xs r → Tells f rows xs (if_gains f rows r)
gains f rows xs None h = subst (λ ys. AllByRecursion (λ t. rows < f t + 3) ys) (sym h) tt
gains f rows xs (Some r) h = gains-if f rows xs (nat_le (f r + 3) rows) r refl h

told : (current target : Picture) (bands : List Band) (s : Option Shift) → choice (Some current) target bands ≡ s
    → Tells (cost current target) (differing current.rows target.rows) (flat_map shifts_of bands) s
told current target bands s e =
    let f = cost current target in
    let xs = flat_map shifts_of bands in
    let rows = differing current.rows target.rows in
    subst (Tells f rows xs) e (gains f rows xs (cheapest f xs) (least f xs))

pub taken-least : (current target : Picture) (bands : List Band) (s : Shift) → choice (Some current) target bands ≡ Some s
    → (cost current target s + 3 ≤ differing current.rows target.rows) × All (λ t. cost current target s ≤ cost current target t) (flat_map shifts_of bands)
taken-least current target bands s e =
    let h = told current target bands (Some s) e in
    (h.0, All-from_recursion (λ t. cost current target s ≤ cost current target t) (flat_map shifts_of bands) h.1)

pub none-least : (current target : Picture) (bands : List Band) → choice (Some current) target bands ≡ None
    → All (λ t. differing current.rows target.rows < cost current target t + 3) (flat_map shifts_of bands)
none-least current target bands e =
    All-from_recursion (λ t. differing current.rows target.rows < cost current target t + 3) (flat_map shifts_of bands) (told current target bands None e)
