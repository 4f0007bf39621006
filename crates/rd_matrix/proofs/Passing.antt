-- Elements of a list that pass a test: where the first of them stands, and how many there are.
use Rattle.std.proofs.Common.{◌≡◌, ℕ, zero, suc, ◌+◌, ◌<◌, ◌≤◌, inl, inr, Bool, true, false, not, cond, List, [], ◌∷◌, length, Some, refl, sym, ap, ◌∙◌, arith}
use Rattle.std.specs.List.{count_by, find, list_any, position_or_len, slice_get}
use Rattle.std.proofs.lemmas.Bool.{cases_Bool, eqb-false, eqb-true}
use Rattle.std.proofs.lemmas.List.Folds.{find_at, list_any_at}
use Rattle.std.proofs.lemmas.Option.{get_or_from_slice_get, slice_get_within}
use Rattle.rd_base.proofs.Choices.{some-of}
use Rattle.rd_base.proofs.Lists.{count-cons, found-passes, is_some-found, none_counted}

-- where some element passes, the first that does stands at its place
pub at-position : {X : Type 0} (p : X → Bool) (xs : List X) → list_any p xs ≡ true → (x : X) × (slice_get xs (position_or_len p xs) ≡ Some x) × (p x ≡ true)
at-position p xs some =
    let found = some-of (find p xs) (is_some-found p xs ∙ some) in
    (found.0, sym (find_at p xs) ∙ found.1, (found-passes p xs found.0 found.1).0)

pub first-inside : {X : Type 0} (p : X → Bool) (xs : List X) → list_any p xs ≡ true → position_or_len p xs < length xs
first-inside p xs some = let first = at-position p xs some in slice_get_within xs (position_or_len p xs) first.0 first.1

-- where an element passes, one is counted
pub some-counted : {X : Type 0} (p : X → Bool) (xs : List X) → list_any p xs ≡ true → 1 ≤ count_by p xs
some-counted p xs some = let none = eqb-false (count_by p xs) 0 (none_counted p xs ∙ ap not some) in omega (arith, none)

pub place-counted : {X : Type 0} (p : X → Bool) (xs : List X) (k : ℕ) (x : X) → slice_get xs k ≡ Some x → p x ≡ true → 1 ≤ count_by p xs
place-counted p xs k x there passes = some-counted p xs (list_any_at p xs k x (slice_get_within xs k x there) (ap p (get_or_from_slice_get xs k x x there) ∙ passes))

pub counted-none : {X : Type 0} (p : X → Bool) (xs : List X) → list_any p xs ≡ false → count_by p xs ≡ 0
counted-none p xs none = eqb-true (count_by p xs) 0 (none_counted p xs ∙ ap not none)

-- behind the first element no more pass than with it
pub fewer : {X : Type 0} (p : X → Bool) (x : X) (xs : List X) (most : ℕ) → count_by p (x ∷ xs) ≤ most → count_by p xs ≤ most
fewer p x xs most few = let e = count-cons p x xs in omega (arith, e, few)

-- where with the first element no more pass than so many, and as many pass behind it, it does not pass
pub not-counted : {X : Type 0} (p : X → Bool) (x : X) (xs : List X) (most : ℕ) → count_by p (x ∷ xs) ≤ most → most ≤ count_by p xs → p x ≡ false
not-counted p x xs most few full = elim (cases_Bool (p x)) [
  | inl here ↦ let e = count-cons p x xs ∙ ap (λ t. cond t 1 0 + count_by p xs) here in absurd (omega (arith, e, few, full))
  | inr other ↦ other
]

-- where none pass, neither the first element does nor any behind it
pub none-here : {X : Type 0} (p : X → Bool) (x : X) (xs : List X) → count_by p (x ∷ xs) ≡ 0 → (p x ≡ false) × (count_by p xs ≡ 0)
none-here p x xs none =
    let rest = fewer p x xs 0 (omega (arith, none)) in
    (not-counted p x xs 0 (omega (arith, none)) (omega arith), omega (arith, rest))

-- where at most one passes, its place is that of the first, and it is the one that is found
pub one-position : {X : Type 0} (p : X → Bool) (xs : List X) (k : ℕ) (x : X) → count_by p xs ≤ 1 → slice_get xs k ≡ Some x → p x ≡ true → position_or_len p xs ≡ k
one-position p [] k x one there passes = absurd cc
one-position p (y ∷ xs) zero x one there passes = let same : y ≡ x = cc in let first : p y ≡ true = ap p same ∙ passes in rw first refl
one-position p (y ∷ xs) (suc k) x one there passes =
    let other = not-counted p y xs 1 one (place-counted p xs k x there passes) in
    let rest = one-position p xs k x (fewer p y xs 1 one) there passes in
    rw other (omega (arith, rest))

pub found-one : {X : Type 0} (p : X → Bool) (xs : List X) (k : ℕ) (x : X) → count_by p xs ≤ 1 → slice_get xs k ≡ Some x → p x ≡ true → find p xs ≡ Some x
found-one p xs k x one there passes = find_at p xs ∙ (ap (slice_get xs) (one-position p xs k x one there passes) ∙ there)
