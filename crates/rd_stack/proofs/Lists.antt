-- Ranges that are given element by element, and what holds of each of a list's elements.
use Rattle.std.proofs.Common.{◌≡◌, ℕ, suc, ◌+◌, ◌-◌, ◌<◌, List, [], ◌∷◌, ap, arith}
use Rattle.std.specs.List.{flat_map, range_with_len, AllByRecursion}
use Rattle.rd_base.proofs.Lists.{each-append}

pub range-next : (i n m : ℕ) → m ≡ n → i < m → range_with_len i (n - i) ≡ i ∷ range_with_len (i + 1) (n - (i + 1))
range-next i n m size inside =
    let e : n - i ≡ suc (n - (i + 1)) = omega arith in
    ap (λ k. range_with_len i k) e

-- nothing is asked of each
pub each-any : {X : Type 0} (xs : List X) → AllByRecursion (λ (x : X). Unit {0}) xs
each-any [] = tt
each-any (x ∷ xs) = (tt, each-any xs)

-- what holds of all that is put for each of a list
pub each-flat : {X A : Type 0} (f : X → List A) (P : X → Type 0) (Q : A → Type 0) → ((x : X) → P x → AllByRecursion Q (f x)) → (xs : List X) → AllByRecursion P xs → AllByRecursion Q (flat_map f xs)
each-flat f P Q own [] all = tt
each-flat f P Q own (x ∷ xs) all = each-append Q (f x) (flat_map f xs) (own x all.0) (each-flat f P Q own xs all.1)
