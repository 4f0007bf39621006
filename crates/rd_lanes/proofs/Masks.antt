-- From the mask of a group to the numbers in it.
use Rattle.std.proofs.Common.{◌≡◌, ℕ, ◌+◌, ◌-◌, ◌%◌, ◌^◌, ◌<◌, ◌≤◌, eqb, leb, Bool, false, not, cond, List, map, length, get_or, take, replicate, sym, ap, ◌∙◌, arith, w32, w64}
use Rattle.std.proofs.Math.Seq.{take-add}
use Rattle.std.proofs.lemmas.Bool.{eqb-true, not-false}
use Rattle.std.proofs.lemmas.List.{length-map, map-id, take_all}
use Rattle.std.proofs.lemmas.List.Sums.{sum_by-append, count_by-le-length}
use Rattle.std.proofs.lemmas.Simd.{tops_compared, zip2_splat_left, mask_l-mod, length-chunk, get_or-chunk, get_or-zip2, length-zip2, none_from_empty_mask, ones-mask_l}
use Rattle.std.specs.Int.RustNames.{count_ones}
use Rattle.std.specs.List.{count_by}
use Rattle.std.specs.Simd.Lanes.{chunk, zip2, mask_l, top}

pub same_groups : (a b : List ℕ) (at k : ℕ) → at + 8 ≤ length a → at + 8 ≤ length b
    → mask_l (map (top 63) (zip2 (λ x y. cond (not (eqb x y)) 18446744073709551615 0) (chunk at 8 a) (chunk at 8 b))) % 2 ^ 64 ≡ 0
    → at ≤ k → k < at + 8 → get_or a k 0 ≡ get_or b k 0
same_groups a b at k ra rb e from to =
    let t = λ (x y : ℕ). not (eqb x y) in
    let u = chunk at 8 a in
    let v = chunk at 8 b in
    let lu : length u ≡ 8 = length-chunk at 8 a ra in
    let lv : length v ≡ 8 = length-chunk at 8 b rb in
    let z = zip2 t u v in
    let lz : length z ≡ length u = length-zip2 t u v (omega arith) in
    let empty : mask_l z ≡ 0 = sym (ap (λ l. mask_l l % 2 ^ 64) (tops_compared w64 t u v) ∙ mask_l-mod z 64 (omega arith)) ∙ e in
    let i : ℕ = k - at in
    let lanes : map (λ b. b) (chunk 0 8 z) ≡ z = map-id (chunk 0 8 z) ∙ take_all 8 z (omega arith) in
    let lane : t (get_or u i 0) (get_or v i 0) ≡ false =
    sym (get_or-zip2 t u v i 0 0 false (omega arith) (omega arith))
    ∙ none_from_empty_mask (λ b. b) z 0 8 false (omega arith) (ap mask_l lanes ∙ empty) i (omega arith) (omega arith) in
    let back : at + i ≡ k = omega arith in
    let xa : get_or u i 0 ≡ get_or a k 0 = get_or-chunk at 8 a i 0 (omega arith) ∙ ap (λ j. get_or a j 0) back in
    let xb : get_or v i 0 ≡ get_or b k 0 = get_or-chunk at 8 b i 0 (omega arith) ∙ ap (λ j. get_or b j 0) back in
    sym xa ∙ eqb-true (get_or u i 0) (get_or v i 0) (not-false _ lane) ∙ xb

-- a group without a number that is at least a limit
pub none_reaches : (xs : List ℕ) (at limit k : ℕ) → at + 8 ≤ length xs
    → mask_l (map (top 31) (zip2 (λ a b. cond (leb a b) 4294967295 0) (replicate 8 limit) (chunk at 8 xs))) % 2 ^ 64 ≡ 0
    → at ≤ k → k < at + 8 → leb limit (get_or xs k 0) ≡ false
none_reaches xs at limit k room e from to =
    let p = λ (y : ℕ). leb limit y in
    let v = chunk at 8 xs in
    let long : length v ≡ 8 = length-chunk at 8 xs room in
    let mask : mask_l (map (top 31) (zip2 (λ a b. cond (leb a b) 4294967295 0) (replicate 8 limit) v)) % 2 ^ 64 ≡ mask_l (map p v) =
    ap (λ l. mask_l l % 2 ^ 64) (tops_compared w32 leb (replicate 8 limit) v ∙ zip2_splat_left leb limit 8 v long) ∙ mask_l-mod (map p v) 64 (omega (arith, length-map v p)) in
    none_from_empty_mask p xs at 8 0 room (sym mask ∙ e) k from to

-- one more group is counted
pub count_more : (p : ℕ → Bool) (xs : List ℕ) (at n mask : ℕ) → mask ≡ mask_l (map p (chunk at 8 xs)) → n ≡ count_by p (take at xs) → n + count_ones mask ≡ count_by p (take (at + 8) xs)
count_more p xs at n mask is so_far =
    let ones : count_ones mask ≡ count_by p (chunk at 8 xs) = ap count_ones is ∙ ones-mask_l p (chunk at 8 xs) in
    let whole : count_by p (take (at + 8) xs) ≡ count_by p (take at xs) + count_by p (chunk at 8 xs)
    = ap (count_by p) (take-add at 8 xs) ∙ sum_by-append (λ x. cond (p x) 1 0) (take at xs) (chunk at 8 xs) in
    omega arith

pub group_count : (p : ℕ → Bool) (xs : List ℕ) (at mask : ℕ) → at + 8 ≤ length xs → mask ≡ mask_l (map p (chunk at 8 xs)) → count_ones mask ≤ 8
group_count p xs at mask room is =
    let ones : count_ones mask ≡ count_by p (chunk at 8 xs) = ap count_ones is ∙ ones-mask_l p (chunk at 8 xs) in
    let bound = count_by-le-length p (chunk at 8 xs) in
    let long = length-chunk at 8 xs room in
    omega arith
