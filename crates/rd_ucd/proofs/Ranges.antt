-- Looking a code up in entries that ascend.
use Rattle.std.proofs.Common.{◌≡◌, ℕ, ◌<◌, ◌≤◌, ◌⊎◌, inl, inr, true, false, ◌&&◌, List, length, get_or, None, Some, sym, ap, subst, ltb, ◌∙◌, arith}
use Rattle.std.specs.Prelude.{nat_le}
use Rattle.std.specs.List.{slice_get}
use Rattle.std.specs.List.Sorted.{IsPartitionPoint}
use Rattle.std.proofs.lemmas.Bool.Decides.{nat_tests}
use Rattle.std.proofs.lemmas.Bool.{cases_eq, cases_lt, ltb-true, ltb-false}
use Rattle.std.proofs.lemmas.Option.{slice_get-get_or}
use Rattle.std.proofs.lemmas.List.Folds.{find_at, list_any_none}
use Rattle.std.proofs.lemmas.List.Sums.{position_or_len_is}
use Rattle.rd_base.proofs.Lists.{none-found}
use Rattle.rd_ucd.specs.Lookup.{IsAscending, entry_in}

outside : (a b c : ℕ) → (b < c) ⊎ (c < a) → (nat_le a c && nat_le c b) ≡ false
outside a b c (inl above) = grind (arith, nat_tests)
outside a b c (inr below) = grind (arith, nat_tests)

inside : (a b c : ℕ) → a ≤ c → c ≤ b → (nat_le a c && nat_le c b) ≡ true
inside a b c from to = grind (arith, nat_tests)

-- a code in entries that ascend, of which so many end below it
module _ {E : Type 0} (first last : E → ℕ) (es : List E) (code below : ℕ) (ascend : IsAscending first last es) (point : IsPartitionPoint (λ e. ltb (last e) code ≡ true) (λ e. ltb (last e) code ≡ false) es below) where
  -- the next entry covers the code, where it begins at the code or before
  pub entry_in-hit : (d : E) → below < length es → first (get_or es below d) ≤ code → entry_in first last es code ≡ Some (get_or es below d)
  entry_in-hit d within from =
      let ends = ltb-false _ _ (point.1 below d (omega arith) within) in
      find_at _ es
      ∙ (ap (slice_get es) (position_or_len_is _ es below d (omega arith)
      (λ k less. outside (first (get_or es k d)) (last (get_or es k d)) code (inl (ltb-true _ _ (point.0 k d (omega arith) less))))
      (λ _. inside (first (get_or es below d)) (last (get_or es below d)) code from ends))
      ∙ slice_get-get_or es below d within)

  -- where the next entry begins behind the code, no entry covers it
  pub entry_in-miss : ((d : E) → below < length es → code < first (get_or es below d)) → entry_in first last es code ≡ None
  entry_in-miss from =
      none-found _ es
      (list_any_none _ es (λ i d within. outside (first (get_or es i d)) (last (get_or es i d)) code (elim (cases_lt i below) [
        | inl less ↦ inl (ltb-true _ _ (point.0 i d (omega arith) less))
        | inr past ↦ elim (cases_eq i below) [
          | inl same ↦ inr (subst (λ k. code < first (get_or es k d)) (sym same) (from d (omega arith)))
          | inr other ↦
              let next = from d (omega arith) in
              let order = ascend.order below i d (omega arith) within in
              let begins = ascend.inside below d (omega arith) in
              inr (omega arith)
        ]
      ])))

-- last codes of entries that ascend do not fall
pub not_falling : {E : Type 0} (first last : E → ℕ) (es : List E) → IsAscending first last es → (i j : ℕ) (d : E) → i ≤ j → j < length es → last (get_or es i d) ≤ last (get_or es j d)
not_falling first last es ascend i j d upto within = elim (cases_eq i j) [
  | inl same ↦
      let e : last (get_or es i d) ≡ last (get_or es j d) = ap (λ (k : ℕ). last (get_or es k d)) same in
      omega arith
  | inr other ↦
      let order = ascend.order i j d (omega arith) within in
      let inside = ascend.inside j d within in
      omega arith
]
