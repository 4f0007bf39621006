-- Two lists in one order, with the same elements, are equal.
use Rattle.std.proofs.Common.{◌≡◌, suc, Bool, true, false, not, ◌&&◌, if◌then◌else◌, List, [], ◌∷◌, length, slice_index_or, drop, refl, sym, ap, ◌∙◌, arith, true≢false}
use Rattle.std.specs.Prelude.{⊤}
use Rattle.std.specs.List.{AllByRecursion, AllPairs, filter}
use Rattle.std.specs.List.Sorted.{ties, IsSortedBy}
use Rattle.std.specs.Cmp.{IsStrictWeakOrder}
use Rattle.std.proofs.lemmas.Bool.{and_from, not_from_false}
use Rattle.std.proofs.lemmas.List.Elements.{recursion_from_All}
use Rattle.std.proofs.lemmas.List.Sorted.{sorted_far}
use Rattle.rd_base.proofs.Lists.{each-weaker}

-- each element stands so to all behind it
abbrev Pairwise : {X : Type 0} → (X → X → Type 0) → List X → Type 0
Pairwise R [] = ⊤
Pairwise R (x ∷ xs) = AllByRecursion (R x) xs × Pairwise R xs

-- what stands so at each two places
pairwise-from : {X : Type 0} (R : X → X → Type 0) (xs : List X) → AllPairs R xs → Pairwise R xs
pairwise-from R [] all = tt
pairwise-from R (x ∷ xs) all = (
  recursion_from_All (R x) xs (λ k d inside. all 0 (suc k) d (omega arith) (omega arith)),
  pairwise-from R xs (λ i j d less inside. all (suc i) (suc j) d (omega arith) (omega arith)),
)

module _ {X : Type 0} (lt : X → X → Bool) (o : IsStrictWeakOrder lt) where
  -- x comes before each element
  abbrev pub AllAfter : X → List X → Type 0
  AllAfter x = AllByRecursion (λ y. lt x y ≡ true)

  abbrev pub Rises : List X → Type 0
  Rises = Pairwise (λ x y. lt x y ≡ true)

  -- no element comes before x
  abbrev pub NoneBefore : X → List X → Type 0
  NoneBefore x = AllByRecursion (λ y. lt y x ≡ false)

  abbrev pub NeverFalls : List X → Type 0
  NeverFalls = Pairwise (λ x y. lt y x ≡ false)

  before-all : (x : X) (ys : List X) → AllAfter x ys → NoneBefore x ys
  before-all x ys a = each-weaker (λ y. lt x y ≡ true) (λ y. lt y x ≡ false) (o.one_way x) ys a

  pub rises-never_falls : (xs : List X) → Rises xs → NeverFalls xs
  rises-never_falls [] r = tt
  rises-never_falls (x ∷ xs) r = (before-all x xs r.0, rises-never_falls xs r.1)

  pub sorted-never_falls : (xs : List X) → IsSortedBy lt xs → NeverFalls xs
  sorted-never_falls xs s = pairwise-from _ xs (λ i j d less inside. sorted_far lt o xs s i j d (omega arith) inside)

  ties-cases : (a b : Bool) → a ≡ false → b ≡ false → (not a && not b) ≡ true
  ties-cases a b p q = and_from (not a) (not b) (not_from_false a p) (not_from_false b q)

  self : (x : X) (a : Bool) → lt x x ≡ a → lt x x ≡ false
  self x true e = o.one_way x x e
  self x false e = e

  ties-self : (x : X) → ties lt x x ≡ true
  ties-self x = let e = self x (lt x x) refl in ties-cases (lt x x) (lt x x) e e

  keep : (x : X) (xs : List X) (t : X → Bool) → t x ≡ true → filter t (x ∷ xs) ≡ x ∷ filter t xs
  keep x xs t e = ap (λ (b : Bool). if b then x ∷ filter t xs else filter t xs) e

  leave : (x : X) (xs : List X) (t : X → Bool) → t x ≡ false → filter t (x ∷ xs) ≡ filter t xs
  leave x xs t e = ap (λ (b : Bool). if b then x ∷ filter t xs else filter t xs) e

  -- what comes before the first ties with none
  no_tie : (x y z : X) (a : Bool) → lt x y ≡ true → lt z y ≡ false → lt x z ≡ a → ties lt x z ≡ false
  no_tie x y z true p q e = ap (λ (t : Bool). not t && not (lt z x)) e
  no_tie x y z false p q e = absurd (true≢false (sym p ∙ o.chain x z y e q))

  none_tie : (x y : X) (zs : List X) → lt x y ≡ true → NoneBefore y zs → filter (ties lt x) zs ≡ []
  none_tie x y [] p n = refl
  none_tie x y (z ∷ zs) p n = leave z zs (ties lt x) (no_tie x y z (lt x z) p n.0 refl) ∙ none_tie x y zs p n.1

  none_of_all : (x y : X) (ys : List X) → lt x y ≡ true → NoneBefore y ys → filter (ties lt x) (y ∷ ys) ≡ []
  none_of_all x y ys p n = leave y ys (ties lt x) (no_tie x y y (lt x y) p (self y (lt y y) refl) refl) ∙ none_tie x y ys p n

  rest-ties : (x : X) (xs ys : List X) (z : X) (a : Bool) → ties lt z x ≡ a → filter (ties lt z) (x ∷ xs) ≡ filter (ties lt z) (x ∷ ys)
      → filter (ties lt z) xs ≡ filter (ties lt z) ys
  rest-ties x xs ys z true e h = ap (drop 1) (sym (keep x xs (ties lt z) e) ∙ (h ∙ keep x ys (ties lt z) e))
  rest-ties x xs ys z false e h = sym (leave x xs (ties lt z) e) ∙ (h ∙ leave x ys (ties lt z) e)

  empty_not_cons : {Y : Type 0} (y : X) (ys : List X) → y ∷ ys ≡ [] → Y
  empty_not_cons {Y} y ys e = absurd (omega (arith, ap length e))

  first_same : (x y : X) (xs ys : List X) → ties lt x y ≡ true → filter (ties lt x) (x ∷ xs) ≡ filter (ties lt x) (y ∷ ys) → x ≡ y
  first_same x y xs ys e h =
      ap (λ (zs : List X). slice_index_or zs 0 x) (sym (keep x xs (ties lt x) (ties-self x)) ∙ (h ∙ keep y ys (ties lt x) e))

  both : (x y : X) (xs ys : List X) (a b : Bool) → NeverFalls (x ∷ xs) → NeverFalls (y ∷ ys)
      → ((z : X) → filter (ties lt z) (x ∷ xs) ≡ filter (ties lt z) (y ∷ ys)) → lt x y ≡ a → lt y x ≡ b → x ≡ y
  both x y xs ys true b f g h p q =
      empty_not_cons x (filter (ties lt x) xs) (sym (keep x xs (ties lt x) (ties-self x)) ∙ (h x ∙ none_of_all x y ys p g.0))
  both x y xs ys false true f g h p q =
      empty_not_cons y (filter (ties lt y) ys) (sym (keep y ys (ties lt y) (ties-self y)) ∙ (sym (h y) ∙ none_of_all y x xs q f.0))
  both x y xs ys false false f g h p q = first_same x y xs ys (ties-cases (lt x y) (lt y x) p q) (h x)

  pub unique : (xs ys : List X) → NeverFalls xs → NeverFalls ys → ((z : X) → filter (ties lt z) xs ≡ filter (ties lt z) ys) → xs ≡ ys
  unique [] [] f g h = refl
  unique [] (y ∷ ys) f g h = empty_not_cons y (filter (ties lt y) ys) (sym (h y ∙ keep y ys (ties lt y) (ties-self y)))
  unique (x ∷ xs) [] f g h = empty_not_cons x (filter (ties lt x) xs) (sym (keep x xs (ties lt x) (ties-self x)) ∙ h x)
  unique (x ∷ xs) (y ∷ ys) f g h =
      let same = both x y xs ys (lt x y) (lt y x) f g h refl refl in
      let tails : (z : X) → filter (ties lt z) xs ≡ filter (ties lt z) ys
      = λ z. rest-ties x xs ys z (ties lt z x) refl (h z ∙ ap (λ (w : X). filter (ties lt z) (w ∷ ys)) (sym same)) in
      ap (λ (zs : List X). x ∷ zs) (unique xs ys f.1 g.1 tails) ∙ ap (λ (w : X). w ∷ ys) same
