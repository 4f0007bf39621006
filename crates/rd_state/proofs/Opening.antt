-- The values of text properties, kind by kind.
use Rattle.std.proofs.Common.{◌≡◌, ◌≢◌, ℕ, ◌+◌, ◌-◌, ◌<◌, ◌≤◌, inl, inr, true, false, if◌then◌else◌, nat_lt, Option, None, Result, Ok, Err, List, [], length, get_or, set, sym, ap, subst, ◌∙◌, arith, refl}
use Rattle.std.proofs.lemmas.Bool.{cases_eq, cases_lt, cond-false, cond-true, le-ltb, lt-ltb}
use Rattle.std.proofs.lemmas.Bool.Decides.{nat_tests}
use Rattle.std.proofs.lemmas.List.{get_or-set_same, get_or-set_other, get_or_default, get_or_past, set-get_or}
use Rattle.std.specs.Prelude.{is_err, OnOk, OnErr}
use Rattle.rd_base.proofs.Choices.{either}
use Rattle.rd_spans.specs.Values.{value_at, values_opened, values_closed}
use Rattle.rd_spans.proofs.Beside.{opened-before, opened-behind, closed-before, closed-behind}
use Rattle.rd_props.specs.Buffers.{values_of}

-- ---- kinds

same-less : (j k : ℕ) → j ≢ k → nat_lt j (k + 1) ≡ nat_lt j k
same-less j k h = grind (arith, nat_tests)

-- what is done to the values of one kind
abbrev Edit : Type 0
Edit = (ℕ → Option ℕ) → ℕ → Option ℕ

-- an edit goes by the values alone
by-values : (edit : Edit) (f g : ℕ → Option ℕ) (p : ℕ) → ((q : ℕ) → f q ≡ g q) → edit f p ≡ edit g p
by-values edit f g p e = λ i. edit (λ q. e q i) p

-- the values after an edit of each of the first kinds alone
abbrev edited_first : Edit → (ℕ → ℕ → Option ℕ) → ℕ → ℕ → ℕ → Option ℕ
edited_first edit old k kind p = if nat_lt kind k then edit (old kind) p else old kind p

-- the values of a kind that was not edited yet
pub not-yet : (edit : Edit) (spans : List (List (Option ℕ))) (old : ℕ → ℕ → Option ℕ) (k : ℕ) (was : List (Option ℕ)) → k < length spans
    → ((kind p : ℕ) → values_of spans kind p ≡ edited_first edit old k kind p) → (p : ℕ) → value_at (get_or spans k was) p ≡ old k p
not-yet edit spans old k was there before p =
    ap (λ rs. value_at rs p) (get_or_default spans k was [] there) ∙ (before k p ∙ cond-false (nat_lt k k) _ _ (le-ltb k k (omega arith)))

-- one more kind is edited
pub one-more : (edit : Edit) (spans : List (List (Option ℕ))) (old : ℕ → ℕ → Option ℕ) (k : ℕ) (was now : List (Option ℕ)) → k < length spans
    → ((p : ℕ) → value_at now p ≡ edit (value_at (get_or spans k was)) p) → ((kind p : ℕ) → values_of spans kind p ≡ edited_first edit old k kind p)
    → (kind p : ℕ) → values_of (set spans k now) kind p ≡ edited_first edit old (k + 1) kind p
one-more edit spans old k was now there made before kind p =
    let at : values_of (set spans k now) k p ≡ edited_first edit old (k + 1) k p
    = ap (λ rs. value_at rs p) (get_or-set_same spans k now [] there)
    ∙ (made p ∙ (by-values edit (value_at (get_or spans k was)) (old k) p (not-yet edit spans old k was there before)
    ∙ sym (cond-true (nat_lt k (k + 1)) (edit (old k) p) (old k p) (lt-ltb k (k + 1) (omega arith))))) in
    elim (cases_eq kind k) [
      | inl same ↦ subst (λ j. values_of (set spans k now) j p ≡ edited_first edit old (k + 1) j p) (sym same) at
      | inr other ↦
          ap (λ rs. value_at rs p) (get_or-set_other spans k kind now [] other)
          ∙ (before kind p ∙ ap (λ t. if t then edit (old kind) p else old kind p) (sym (same-less kind k other)))
    ]

-- an edit that left the values of a kind as they were: with these in their place all is as before it
pub unchanged : (edit : Edit) (spans : List (List (Option ℕ))) (old : ℕ → ℕ → Option ℕ) (k : ℕ) (was now : List (Option ℕ)) → now ≡ get_or spans k was
    → ((kind p : ℕ) → values_of spans kind p ≡ edited_first edit old k kind p) → (kind p : ℕ) → values_of (set spans k now) kind p ≡ edited_first edit old k kind p
unchanged edit spans old k was now same before kind p = ap (λ s. values_of s kind p) (ap (set spans k) same ∙ set-get_or spans k was) ∙ before kind p

-- ---- all kinds

-- where the first kinds are edited, and that is all of them, each is: an edit gives a kind without values none
pub all-edited : (edit : Edit) (spans old : List (List (Option ℕ))) (k : ℕ) → length old ≤ k → ((p : ℕ) → edit (λ q. None) p ≡ None)
    → ((kind p : ℕ) → values_of spans kind p ≡ edited_first edit (values_of old) k kind p)
    → (kind p : ℕ) → values_of spans kind p ≡ edit (values_of old kind) p
all-edited edit spans old k all nothing h kind p = elim (cases_lt kind k) [
  | inl below ↦ h kind p ∙ cond-true (nat_lt kind k) _ _ (lt-ltb kind k below)
  | inr behind ↦
      let none : (q : ℕ) → values_of old kind q ≡ None = λ q. ap (λ rs. value_at rs q) (get_or_past old kind [] (omega arith)) in
      h kind p ∙ (cond-false (nat_lt kind k) _ _ (le-ltb kind k behind)
      ∙ (none p ∙ sym (by-values edit (values_of old kind) (λ q. None) p none ∙ nothing p)))
]

pub none-opened : (pos n p : ℕ) → values_opened (λ q. None) pos n p ≡ None
none-opened pos n p = either (λ (v : Option ℕ). v ≡ None) (nat_lt p pos) None _ refl (either (λ (v : Option ℕ). v ≡ None) (nat_lt p (pos + n)) None None refl refl)

pub none-closed : (from to p : ℕ) → values_closed (λ q. None) from to p ≡ None
none-closed from to p = either (λ (v : Option ℕ). v ≡ None) (nat_lt p from) None None refl refl

-- ---- undoing

-- positions that were opened and are closed again
closed-opened : (f : ℕ → Option ℕ) (pos n p : ℕ) → values_closed (values_opened f pos n) pos (pos + n) p ≡ f p
closed-opened f pos n p = elim (cases_lt p pos) [
  | inl before ↦ sym (opened-before f pos n p before ∙ closed-before (values_opened f pos n) pos (pos + n) p before)
  | inr behind ↦
      let q = p + (pos + n - pos) in
      sym (opened-behind f pos n p q behind (omega arith) ∙ closed-behind (values_opened f pos n) pos (pos + n) q p behind refl)
]

-- the kinds that were opened are closed again
pub undone : (mid now : List (List (Option ℕ))) (old : ℕ → ℕ → Option ℕ) (pos n k : ℕ)
    → ((kind p : ℕ) → values_of mid kind p ≡ edited_first (λ f. values_opened f pos n) old k kind p)
    → ((kind p : ℕ) → values_of now kind p ≡ edited_first (λ f. values_closed f pos (pos + n)) (values_of mid) k kind p)
    → (kind p : ℕ) → values_of now kind p ≡ old kind p
undone mid now old pos n k up down kind p = elim (cases_lt kind k) [
  | inl below ↦
      let here : (q : ℕ) → values_of mid kind q ≡ values_opened (old kind) pos n q = λ q. up kind q ∙ cond-true (nat_lt kind k) _ _ (lt-ltb kind k below) in
      down kind p ∙ (cond-true (nat_lt kind k) _ _ (lt-ltb kind k below)
      ∙ (by-values (λ f. values_closed f pos (pos + n)) (values_of mid kind) (values_opened (old kind) pos n) p here ∙ closed-opened (old kind) pos n p))
  | inr behind ↦
      down kind p ∙ (cond-false (nat_lt kind k) _ _ (le-ltb kind k behind)
      ∙ (up kind p ∙ cond-false (nat_lt kind k) _ _ (le-ltb kind k behind)))
]

-- ---- answers

pub if-no_err : {T E P : Type 0} (r : Result T E) → false ≡ is_err r → OnOk r P → P
if-no_err (Ok x) e h = h
if-no_err (Err x) e h = absurd (cc)

pub if-is_err : {T E P : Type 0} (r : Result T E) → true ≡ is_err r → OnErr r P → P
if-is_err (Ok x) e h = absurd (cc)
if-is_err (Err x) e h = h
