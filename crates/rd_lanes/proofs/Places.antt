-- From what holds at each place to the first and the last place.
use Rattle.std.proofs.Common.{◌≡◌, ℕ, zero, suc, ◌+◌, ◌-◌, ◌<◌, eqb, leb, ltb, Bool, true, false, not, cond, List, [], ◌∷◌, length, get_or, Option, Some, None, refl, sym, subst, ap, ◌∙◌, arith}
use Rattle.std.specs.Prelude.{zip}
use Rattle.std.specs.List.{position, position_or_len, suffix_len, list_all}
use Rattle.std.specs.Option.{is_some}
use Rattle.std.proofs.lemmas.Bool.{lt-ltb, leb-false, cond-true}
use Rattle.std.proofs.lemmas.Bool.Decides.{nat_tests}
use Rattle.std.proofs.lemmas.List.Elements.{All-from_get_or}
use Rattle.std.proofs.lemmas.List.Folds.{list_all_at}
use Rattle.std.proofs.lemmas.List.Sums.{position_or_len_is, suffix_len_is, list_all-from_AllPass}
use Rattle.rd_lanes.specs.Kernels.{last_position, differs, first_difference, last_difference}
use Rattle.rd_lanes.specs.Walks.{IsFirst, IsLast}

lt_itself : (n : ℕ) → ltb n n ≡ false
lt_itself n = grind (arith, nat_tests)

-- the first and the last place at which a test of a list's elements passes
pub is-first : {X : Type 0} (p : X → Bool) (xs : List X) (d : X) (place : Option ℕ) → IsFirst (length xs) (λ k. p (get_or xs k d)) place → place ≡ position p xs
is-first p xs d None none =
    let whole : position_or_len p xs ≡ length xs = position_or_len_is p xs (length xs) d (omega arith) none (λ h. absurd (omega arith)) in
    sym (ap (λ (n : ℕ). cond (ltb n (length xs)) (Some n) None) whole ∙ ap (λ (t : Bool). cond t (Some (length xs)) None) (lt_itself (length xs)))
is-first p xs d (Some i) first =
    let within = first.0 in
    let e : position_or_len p xs ≡ i = position_or_len_is p xs i d (omega arith) first.2 (λ _. first.1) in
    let t : ltb (position_or_len p xs) (length xs) ≡ true = lt-ltb _ _ (omega arith) in
    sym (cond-true (ltb (position_or_len p xs) (length xs)) (Some (position_or_len p xs)) None t ∙ ap (λ (n : ℕ). Some n) e)

pub is-last : {X : Type 0} (p : X → Bool) (xs : List X) (d : X) (place : Option ℕ) → IsLast (length xs) (λ k. p (get_or xs k d)) place → place ≡ last_position p xs
is-last p xs d None none =
    let s = suffix_len (λ x. not (p x)) xs in
    let e : s ≡ length xs - 0 = suffix_len_is (λ x. not (p x)) xs 0 d (omega arith) (λ k _ less. ap not (none k less)) (λ h. absurd (omega arith)) in
    let whole : s ≡ length xs = omega arith in
    sym (ap (λ (k : ℕ). cond (ltb k (length xs)) (Some (length xs - k - 1)) None) whole ∙ ap (λ (t : Bool). cond t (Some (length xs - length xs - 1)) None) (lt_itself (length xs)))
is-last p xs d (Some i) last =
    let within = last.0 in
    let s = suffix_len (λ x. not (p x)) xs in
    let back : i + 1 - 1 ≡ i = omega arith in
    let here : p (get_or xs (i + 1 - 1) d) ≡ true = ap (λ k. p (get_or xs k d)) back ∙ last.1 in
    let e : s ≡ length xs - (i + 1) = suffix_len_is (λ x. not (p x)) xs (i + 1) d (omega arith) (λ k from less. ap not (last.2 k (omega arith) less)) (λ _. ap not here) in
    let t : ltb s (length xs) ≡ true = lt-ltb _ _ (omega arith) in
    let at : length xs - s - 1 ≡ i = omega arith in
    sym (cond-true (ltb s (length xs)) (Some (length xs - s - 1)) None t ∙ ap (λ (k : ℕ). Some k) at)

-- where no number is at least a limit, all are less
pub none-reaches : (limit : ℕ) (xs : List ℕ) (place : Option ℕ) (answer : Bool) → IsFirst (length xs) (λ k. leb limit (get_or xs k 0)) place → is_some place ≡ not answer
    → answer ≡ list_all (λ y. ltb y limit) xs
none-reaches limit xs None true none e =
    let p = λ (y : ℕ). ltb y limit in
    sym (list_all-from_AllPass p xs (All-from_get_or (λ y. p y ≡ true) xs 0 (λ k less. lt-ltb _ _ (leb-false limit (get_or xs k 0) (none k less)))))
none-reaches limit xs (Some i) false first e =
    let reaches = first.1 in
    sym (list_all_at (λ y. ltb y limit) xs i 0 first.0 (grind (arith, nat_tests)))
none-reaches limit xs None false none e = cc
none-reaches limit xs (Some i) true first e = cc

-- two lists side by side
length-zip : (a b : List ℕ) → length a ≡ length b → length (zip a b) ≡ length a
length-zip [] b e = refl
length-zip (x ∷ a) [] e = absurd (omega arith)
length-zip (x ∷ a) (y ∷ b) e = ap (λ (n : ℕ). suc n) (length-zip a b (omega arith))

-- whether two lists differ at a place
abbrev pub differ : List ℕ → List ℕ → ℕ → Bool
differ a b k = differs (get_or (zip a b) k (0, 0))

pub differs_at : (a b : List ℕ) (k : ℕ) → length a ≡ length b → k < length a → differ a b k ≡ not (eqb (get_or a k 0) (get_or b k 0))
differs_at [] b k e h = absurd (omega arith)
differs_at (x ∷ a) [] k e h = absurd (omega arith)
differs_at (x ∷ a) (y ∷ b) zero e h = refl
differs_at (x ∷ a) (y ∷ b) (suc k) e h = differs_at a b k (omega arith) (omega arith)

pub first-differs : (a b : List ℕ) (place : Option ℕ) → length a ≡ length b → IsFirst (length a) (differ a b) place → place ≡ first_difference a b
first-differs a b place e first = is-first differs (zip a b) (0, 0) place (subst (λ (size : ℕ). IsFirst size (differ a b) place) (sym (length-zip a b e)) first)

pub last-differs : (a b : List ℕ) (place : Option ℕ) → length a ≡ length b → IsLast (length a) (differ a b) place → place ≡ last_difference a b
last-differs a b place e last = is-last differs (zip a b) (0, 0) place (subst (λ (size : ℕ). IsLast size (differ a b) place) (sym (length-zip a b e)) last)
