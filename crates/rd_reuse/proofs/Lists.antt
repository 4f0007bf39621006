-- Lists that are joined, and what is left of them.
use Rattle.std.proofs.Common.{◌≡◌, ℕ, zero, suc, ◌-◌, ◌<◌, ◌≤◌, List, [], ◌∷◌, ◌++◌, length, take, drop, sym, ap, ◌∙◌, arith}
use Rattle.std.proofs.lemmas.List.{append_assoc, drop-append-le, length-append, length-drop, length-take}

take-both : {X : Type 0} (n : ℕ) (xs ys : List X) → take n (xs ++ ys) ≡ take n xs ++ take (n - length xs) ys
take-both zero xs ys = let none : 0 - length xs ≡ 0 = omega arith in sym (ap (λ k. take k ys) none)
take-both (suc n) [] ys = let same : suc n - 0 ≡ suc n = omega arith in sym (ap (λ k. take k ys) same)
take-both (suc n) (x ∷ xs) ys =
    let same : suc n - length (x ∷ xs) ≡ n - length xs = omega arith in
    ap (λ zs. x ∷ zs) (take-both n xs ys ∙ sym (ap (λ k. take n xs ++ take k ys) same))

take-both-from : {X : Type 0} (n from : ℕ) (xs ys : List X) → from ≤ length xs → take n (drop from (xs ++ ys)) ≡ take n (drop from xs) ++ take (n - (length xs - from)) ys
take-both-from n from xs ys low =
    ap (take n) (drop-append-le from xs ys low) ∙ take-both n (drop from xs) ys ∙ ap (λ k. take n (drop from xs) ++ take (n - k) ys) (length-drop from xs)

-- up to `most` elements of a list, from one of `here` on: those of `here`, and then those of `rest` as far as there is room
pub filled-more : {X : Type 0} (most from : ℕ) (done here rest all : List X) → length done ≤ most → from ≤ length here
    → done ++ take (most - length done) (drop from (here ++ rest)) ≡ all
    → (done ++ take (most - length done) (drop from here)) ++ take (most - length (done ++ take (most - length done) (drop from here))) rest ≡ all
filled-more most from done here rest all low inside e =
    let n = most - length done in
    let size = length-append done (take n (drop from here)) in
    let taken = length-take n (drop from here) in
    let left = length-drop from here in
    let room : most - length (done ++ take n (drop from here)) ≡ n - (length here - from) = omega (arith, size, taken, left, low, inside) in
    ap (λ k. (done ++ take n (drop from here)) ++ take k rest) room
    ∙ (append_assoc done (take n (drop from here)) (take (n - (length here - from)) rest)
    ∙ (sym (ap (λ zs. done ++ zs) (take-both-from n from here rest inside)) ∙ e))

-- a list has at most so many elements once it is filled, and more than before where there was room
pub filled-size : {X : Type 0} (most from : ℕ) (done here : List X) → length done < most → from < length here
    → (length (done ++ take (most - length done) (drop from here)) ≤ most) × (length done < length (done ++ take (most - length done) (drop from here)))
filled-size most from done here low inside =
    let n = most - length done in
    let size = length-append done (take n (drop from here)) in
    let taken = length-take n (drop from here) in
    let left = length-drop from here in
    (omega (arith, size, taken, left, low, inside), omega (arith, size, taken, left, low, inside))
