-- The first change behind a position, and the last up to it, where one more property is looked at.
use Rattle.std.proofs.Common.{◌≡◌, ◌⊎◌, inl, inr, ℕ, zero, suc, ◌+◌, ◌-◌, ◌<◌, ◌≤◌, min, max, List, ◌∷◌, drop, length, get_or, Option, None, Some, unwrap_or, sym, subst, ◌∙◌, arith}
use Rattle.std.proofs.Math.Path.{subst₂}
use Rattle.std.proofs.lemmas.Bool.{cases_lt}
use Rattle.std.proofs.lemmas.List.{drop_more}
use Rattle.rd_spans.specs.Values.{value_at, IsNextChange, IsFirstAlike}
use Rattle.rd_overlays.specs.declared.overlay.Overlay.{Overlay}
use Rattle.rd_props.specs.Buffers.{values_of}
use Rattle.rd_props.specs.Stops.{AreSame, Differs, HasEdge, IsFirstChange, IsLastChange}

same-cons : (values : List (Option ℕ)) (spans : List (List (Option ℕ))) (p q : ℕ) → value_at values p ≡ value_at values q → AreSame (values_of spans) p q → AreSame (values_of (values ∷ spans)) p q
same-cons values spans p q here rest zero = here
same-cons values spans p q here rest (suc kind) = rest kind

-- why a stop is one: a property has another value beside it, or an overlay has an edge there
abbrev Reason : List (List (Option ℕ)) → List (Option Overlay) → ℕ → ℕ → ℕ → Type 0
Reason spans slots p pos stop = Differs (values_of spans) p pos ⊎ HasEdge slots stop

reason-cons : (values : List (Option ℕ)) (spans : List (List (Option ℕ))) (slots : List (Option Overlay)) (p pos stop : ℕ) → Reason spans slots p pos stop → Reason (values ∷ spans) slots p pos stop
reason-cons values spans slots p pos stop (inl (kind, other)) = inl (suc kind, other)
reason-cons values spans slots p pos stop (inr edge) = inr edge

pub one-more : (values : List (Option ℕ)) (spans : List (List (Option ℕ))) (slots : List (Option Overlay)) (end pos stop : ℕ) (o : Option ℕ) → end < 4294967296
    → IsFirstChange (values_of spans) slots end pos stop → IsNextChange values pos o → IsFirstChange (values_of (values ∷ spans)) slots end pos (min stop (unwrap_or o stop))
one-more values spans slots end pos stop None small first next =
    let within = first.within in
    let same : stop ≡ min stop stop = omega arith in
    let P : ℕ → Type 0 = IsFirstChange (values_of (values ∷ spans)) slots end pos in
    subst P same record {
      later = first.later;
      within = within;
      same = λ p l m. same-cons values spans p pos (next p l (omega arith)) (first.same p l m);
      no_edge = first.no_edge;
      reason = λ l. reason-cons values spans slots stop pos stop (first.reason l);
    }
one-more values spans slots end pos stop (Some q) small first next =
    let later = first.later in
    let within = first.within in
    let behind = next.0 in
    let P : ℕ → Type 0 = λ x. Reason (values ∷ spans) slots x pos x in
    record {
      later = omega arith;
      within = omega arith;
      same = λ p l m. same-cons values spans p pos (next.3 p l (omega arith)) (first.same p l (omega arith));
      no_edge = λ p l m. first.no_edge p l (omega arith);
      reason = λ l. elim (cases_lt q stop) [
        | inl less ↦ let e : q ≡ min stop q = omega arith in subst P e (inl (0, next.2))
        | inr more ↦ let e : stop ≡ min stop q = omega arith in subst P e (reason-cons values spans slots stop pos stop (first.reason (omega arith)))
      ];
    }

-- what holds of the properties from one on, with the values of the one before in front, holds of those from that one on
pub from-back : (P : List (List (Option ℕ)) → ℕ → Type 0) (spans : List (List (Option ℕ))) (i j stop new : ℕ) (values : List (Option ℕ)) → i ≡ j + 1 → i ≤ length spans
    → values ≡ get_or spans j values → new ≡ stop → P (values ∷ drop i spans) stop → P (drop j spans) new
from-back P spans i j stop new values next within at is =
    let here : drop j spans ≡ get_or spans j values ∷ drop (j + 1) spans = drop_more spans j values (omega arith) in
    subst₂ P ((λ k. at k ∷ drop (next k) spans) ∙ sym here) (sym is)

-- ---- back to the last change

pub one-same : (values : List (Option ℕ)) (spans : List (List (Option ℕ))) (slots : List (Option Overlay)) (begin pos stop first : ℕ) → IsLastChange (values_of spans) slots begin pos stop
    → IsFirstAlike values pos first → IsLastChange (values_of (values ∷ spans)) slots begin pos (max stop first)
one-same values spans slots begin pos stop first so-far alike =
    let within = so-far.within in
    let before = so-far.before in
    let there = alike.before in
    let P : ℕ → Type 0 = λ x. Reason (values ∷ spans) slots (x - 1) pos x in
    record {
      within = omega arith;
      before = omega arith;
      same = λ p l m. same-cons values spans p pos (alike.same p (omega arith) m) (so-far.same p (omega arith) m);
      no_edge = λ p l m. so-far.no_edge p (omega arith) m;
      reason = λ l. elim (cases_lt stop first) [
        | inl less ↦ let e : first ≡ max stop first = omega arith in subst P e (inl (0, alike.reason (omega arith)))
        | inr more ↦ let e : stop ≡ max stop first = omega arith in subst P e (reason-cons values spans slots (stop - 1) pos stop (so-far.reason (omega arith)))
      ];
    }
