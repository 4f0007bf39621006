-- One step of the walk of rule L1 over a line's levels.
use Rattle.std.proofs.Common.{◌≡◌, ℕ, ◌+◌, ◌≤◌, ◌<◌, Bool, ◌||◌, ◌&&◌, if◌then◌else◌, List, ◌∷◌, length, take, drop, set, get_or, slice_get, Some, ap, ap₂, sym, ◌∙◌, arith}
use Rattle.std.proofs.lemmas.List.{drop_more, drop-set, take-set, take-take, get_or-take}
use Rattle.std.proofs.lemmas.Option.{get_or_from_slice_get}
use Rattle.rd_base.specs.declared.class.Class.{Class}
use Rattle.rd_resolve.specs.Implicit.{l1_is_separator, l1_is_white, l1_resets, l1}
use Rattle.rd_base.proofs.Lists.{drop-at}

-- L1, one character nearer to the line's front
module _ (base i j : ℕ) (cs : List Class) (ls old : List ℕ) (c : Class) (l v : ℕ) (white now : Bool)
    (next : j + 1 ≡ i) (within : i ≤ length cs) (same_ls : length ls ≡ length cs) (same_old : length old ≡ length cs)
    (read_c : slice_get cs j ≡ Some c) (read_l : slice_get ls j ≡ Some l)
    (was : white ≡ l1_resets (drop i cs)) (is : now ≡ (l1_is_separator c || (l1_is_white c && white))) (given : v ≡ (if now then base else l))
    (done : drop i ls ≡ l1 base (drop i cs) (drop i old)) (left : take i ls ≡ take i old) where
  at_cs : drop j cs ≡ c ∷ drop i cs
  at_cs = drop-at cs j c read_c ∙ ap (λ n. c ∷ drop n cs) next

  pub l1-white-step : now ≡ l1_resets (drop j cs)
  l1-white-step = rw at_cs (is ∙ ap (λ b. l1_is_separator c || (l1_is_white c && b)) was)

  at_old : drop j old ≡ l ∷ drop i old
  at_old =
      let e : get_or old j 0 ≡ l = sym (get_or-take i old j 0 (omega arith)) ∙ ap (λ zs. get_or zs j 0) (sym left) ∙ get_or-take i ls j 0 (omega arith) ∙ get_or_from_slice_get ls j l 0 read_l in
      drop_more old j 0 (omega arith) ∙ ap₂ (λ x n. x ∷ drop n old) e next

  pub l1-reset-step : drop j (set ls j v) ≡ l1 base (drop j cs) (drop j old)
  l1-reset-step =
      let fits : j < length ls = omega arith in
      let head : v ≡ (if l1_resets (c ∷ drop i cs) then base else l) = given ∙ ap (λ (b : Bool). if b then base else l) (l1-white-step ∙ ap l1_resets at_cs) in
      drop-set ls j v fits ∙ ap₂ (λ x n. x ∷ drop n ls) head next ∙ ap (λ r. (if l1_resets (c ∷ drop i cs) then base else l) ∷ r) done ∙ sym (ap₂ (λ ds ms. l1 base ds ms) at_cs at_old)

  pub l1-front-step : take j (set ls j v) ≡ take j old
  l1-front-step = take-set ls j v ∙ sym (take-take j i ls (omega arith)) ∙ ap (take j) left ∙ take-take j i old (omega arith)
