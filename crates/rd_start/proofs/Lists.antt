-- Places in joined lists, searches there and among the rows round a row, and what holds of all of one.
use Rattle.std.proofs.Common.{◌≡◌, ℕ, zero, suc, ◌+◌, ◌-◌, ◌<◌, ◌≤◌, Bool, true, false, cond, not, eqb, leb, ltb, List, [], ◌∷◌, ◌++◌, length, map, get_or, Option, None, Some, refl, sym, ap, ap₂, ◌∙◌, arith, zero-add}
use Rattle.std.proofs.Math.Nat.{add-suc, add-zero}
use Rattle.std.proofs.Math.Numerals.{add-one}
use Rattle.std.proofs.lemmas.Bool.{le-ltb, lt-ltb, or_parts}
use Rattle.std.specs.List.{All, AllByRecursion, find, flat_map, fold, list_any, position, position_or_len}
use Rattle.std.proofs.lemmas.List.{append-nil, length-map}
use Rattle.std.proofs.lemmas.List.Elements.{All-append, All-nil, All-tail}
use Rattle.std.proofs.lemmas.Bool.Decides.{nat_tests}
use Rattle.std.proofs.lemmas.List.Folds.{find-append, list_any_none, prefix_len-append}
use Rattle.std.specs.Option.{option_or}
use Rattle.rd_base.proofs.Choices.{either, none-of}
use Rattle.rd_base.proofs.Lists.{all-one, is_some-found}
use Rattle.rd_matrix.proofs.Passing.{first-inside}
use Rattle.rd_start.specs.Starts.{above_at, around, both_at}

-- what holds of all that each element gives
pub all-flat : {X Y : Type 0} (P : Y → Type 0) (f : X → List Y) (xs : List X) → All (λ (x : X). All P (f x)) xs → All P (flat_map f xs)
all-flat P f [] all = All-nil P
all-flat {X} P f (x ∷ xs) all = All-append P (f x) (flat_map f xs) (all zero x (omega arith)) (all-flat P f xs (All-tail (λ (y : X). All P (f y)) x xs all))

-- what a joining of two keeps a list that is folded by it keeps
pub fold-keeps : {X : Type 0} (P : X → Type 0) (f : X → X → X) → ((x y : X) → P x → P y → P (f x y)) → (x : X) (xs : List X) → P x → AllByRecursion P xs → P (fold f x xs)
fold-keeps P f keeps x [] here all = here
fold-keeps P f keeps x (y ∷ xs) here all = fold-keeps P f keeps (f x y) xs (keeps x y here all.0) all.1

lt-eqb : (m n : ℕ) → m < n → eqb m n ≡ false
lt-eqb m n less = grind (arith, nat_tests)

-- the first element that passes, behind elements that don't, and among elements of which one does
pub first-behind : {X : Type 0} (p : X → Bool) (xs ys : List X) → list_any p xs ≡ false → position_or_len p (xs ++ ys) ≡ length xs + position_or_len p ys
first-behind p [] ys none = sym (zero-add (position_or_len p ys))
first-behind p (x ∷ xs) ys none =
    let both = or_parts (p x) (list_any p xs) none in
    let here = both.0 in
    let rest = first-behind p xs ys both.1 in
    rw here (omega arith)

pub first-among : {X : Type 0} (p : X → Bool) (xs ys : List X) → list_any p xs ≡ true → position_or_len p (xs ++ ys) ≡ position_or_len p xs
first-among p xs ys some =
    let within = lt-eqb (position_or_len p xs) (length xs) (first-inside p xs some) in
    prefix_len-append (λ x. not (p x)) xs ys ∙ ap (λ b. cond b (length xs + position_or_len p ys) (position_or_len p xs)) within

first-none : {X : Type 0} (p : X → Bool) (xs : List X) → list_any p xs ≡ false → position_or_len p xs ≡ length xs
first-none p xs none = ap (position_or_len p) (sym (append-nil xs)) ∙ (first-behind p xs [] none ∙ add-zero (length xs))

first-mapped : {X Y : Type 0} (p : Y → Bool) (f : X → Y) (xs : List X) → position_or_len p (map f xs) ≡ position_or_len (λ x. p (f x)) xs
first-mapped p f [] = refl
first-mapped p f (x ∷ xs) = ap (λ n. cond (not (p (f x))) (1 + n) 0) (first-mapped p f xs)

-- a search among the rows round a row
pub find-first : (p : ℕ → Bool) (row far : ℕ) → p row ≡ true → find p (around row far) ≡ Some row
find-first p row zero here = rw here refl
find-first p row (suc far) here =
    find-append p (around row far) (both_at row (suc far)) ∙ ap (λ o. option_or o (find p (both_at row (suc far)))) (find-first p row far here)

pub find-kept : (p : ℕ → Bool) (row far : ℕ) (o : Option ℕ) → find p (around row far) ≡ None → find p (both_at row (far + 1)) ≡ o → find p (around row (far + 1)) ≡ o
find-kept p row far o before here =
    ap (λ n. find p (around row n)) (add-one far)
    ∙ (find-append p (around row far) (both_at row (suc far))
    ∙ (ap (λ r. option_or r (find p (both_at row (suc far)))) before
    ∙ (ap (λ n. find p (both_at row n)) (sym (add-one far)) ∙ here)))

pub find-far : (p : ℕ → Bool) (row far more : ℕ) (x : ℕ) → find p (around row far) ≡ Some x → find p (around row (far + more)) ≡ Some x
find-far p row far zero x e = rw (add-zero far) e
find-far p row far (suc more) x e =
    ap (λ n. find p (around row n)) (add-suc far more)
    ∙ (find-append p (around row (far + more)) (both_at row (suc (far + more)))
    ∙ ap (λ o. option_or o (find p (both_at row (suc (far + more))))) (find-far p row far more x e))

-- one of the rows at most so many rows away from a row
abbrev pub IsAround : ℕ → ℕ → ℕ → Type 0
IsAround row far x = (row ≤ x + far) × (x ≤ row + far)

-- each row that is searched round one is at most so many rows away from it
pub around-each : (row far : ℕ) → All (IsAround row far) (around row far)
around-each row zero = all-one (IsAround row zero) row (omega arith, omega arith)
around-each row (suc far) =
    let Near = IsAround row (suc far) in
    let above = either (All Near) (leb (suc far) row) ((row - suc far) ∷ []) [] (all-one Near (row - suc far) (omega arith, omega arith)) (All-nil Near) in
    All-append Near (around row far) (both_at row (suc far)) (λ k d below. let near = around-each row far k d below in (omega (arith, near.0), omega (arith, near.1)))
    (All-append Near (above_at row (suc far)) ((row + suc far) ∷ []) above (all-one Near (row + suc far) (omega arith, omega arith)))

pub find-none : (p : ℕ → Bool) (row far : ℕ) → ((k : ℕ) → row ≤ k + far → k ≤ row + far → p k ≡ false) → find p (around row far) ≡ None
find-none p row far none =
    none-of (find p (around row far))
    (is_some-found p (around row far) ∙ list_any_none p (around row far) (λ k d below. let near = around-each row far k d below in none (get_or (around row far) k d) near.0 near.1))

-- the place of the first element that passes
pub position-mapped : {X Y : Type 0} (p : Y → Bool) (f : X → Y) (xs : List X) → position p (map f xs) ≡ position (λ x. p (f x)) xs
position-mapped p f xs = ap₂ (λ n size. cond (ltb n size) (Some n) None) (first-mapped p f xs) (length-map xs f)

pub position-some : {X : Type 0} (p : X → Bool) (xs : List X) → list_any p xs ≡ true → position p xs ≡ Some (position_or_len p xs)
position-some p xs some = ap (λ b. cond b (Some (position_or_len p xs)) None) (lt-ltb (position_or_len p xs) (length xs) (first-inside p xs some))

pub position-none : {X : Type 0} (p : X → Bool) (xs : List X) → list_any p xs ≡ false → position p xs ≡ None
position-none p xs none =
    let place = first-none p xs none in
    ap (λ b. cond b (Some (position_or_len p xs)) None) (le-ltb (position_or_len p xs) (length xs) (omega (arith, place)))
