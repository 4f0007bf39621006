-- The change that an op is for a window leads from what its buffer was before the op to what it is behind it.
use Rattle.std.proofs.Common.{◌≡◌, ◌≢◌, ◌⊎◌, inl, inr, ℕ, ◌+◌, ◌-◌, ◌≤◌, min, max, nat_le, ◌==◌, ◌&&◌, ◌||◌, Bool, true, false, if◌then◌else◌, refl, sym, ap, subst, ◌∙◌, arith}
use Rattle.std.proofs.lemmas.Bool.{cases_eq, cond-false, cond-true, eq-eqb, ne_eqb}
use Rattle.std.proofs.lemmas.Int.{ints}
use Rattle.std.specs.Prelude.{ℤ, pos, ◌+ℤ◌, ◌-ℤ◌, ◌≤ℤ◌}
use Rattle.rd_base.specs.Lists.{moved}
use Rattle.rd_base.proofs.Choices.{either}
use Rattle.rd_blocks.specs.Leads.{LeadsTo}
use Rattle.rd_blocks.proofs.Leading.{leads-none, leads-ranged}
use Rattle.rd_objects.specs.Sound.{IsClosed, Extends}
use Rattle.rd_objects.specs.Things.{ObjectLists}
use Rattle.rd_props.proofs.Replacing.{no-more}
use Rattle.rd_props.specs.Made.{AreMade}
use Rattle.rd_reuse.proofs.Combining.{all-last}
use Rattle.rd_reuse.specs.Changes.{all, change_of, edit, is_all, is_small, join, none}
use Rattle.rd_reuse.specs.declared.change.Change.{Change}
use Rattle.rd_state.specs.Changes.{Stays, StaysWhole, Leaves}
use Rattle.rd_state.specs.States.{ContentValue, seen}
use Rattle.rd_state.specs.declared.effect.Effect.{Effect}
use Rattle.rd_state.specs.declared.effect.Effect.TheVariants.{Nothing, Edit, Moved, All, Window}
use Rattle.rd_layout.specs.Changes.{change_by, if_shown, restyled}

-- an edit adds as much as it takes away, or stands in the accessible text; and the ranges of an overlay that was moved are ranges
abbrev pub HasPlace : Effect → ℕ → ContentValue → Type 0
HasPlace (Edit i from removed added) k c = k ≡ i → (c.text.begin ≤ from) ⊎ (removed ≡ added)
HasPlace (Moved i before after) k c = k ≡ i → (before.0 ≤ before.1) × (after.0 ≤ after.1)
HasPlace effect k c = Unit {0}

edit-inside : (begin from removed added : ℕ) → (begin ≤ from) ⊎ (removed ≡ added) → (pos begin +ℤ (pos added -ℤ pos removed)) ≤ℤ pos (max begin (from + added + 1))
edit-inside begin from removed added (inl low) = omega (arith, ints)
edit-inside begin from removed added (inr same) = omega (arith, ints)

none-inside : (begin tail : ℕ) → (pos begin +ℤ pos 0) ≤ℤ pos (max begin tail)
none-inside begin tail = omega (arith, ints)

module _ (old new : ContentValue) (a b : ObjectLists) (closed : IsClosed a) (named : AreMade (seen old) a) (extends : Extends a b) where
  abbrev pub Goal : Change → Type 0
  Goal change = LeadsTo (seen old) a (seen new) b change

  stays-lead : (head tail : ℕ) (added : ℤ) → Stays old a new b head tail added → (pos old.text.begin +ℤ added) ≤ℤ pos (max old.text.begin tail) → Goal (change_of head tail added)
  stays-lead head tail added s inside = leads-ranged (seen old) (seen new) a b head tail added closed named s.settings extends s.seen inside

  whole-leads : StaysWhole old a new b → Goal none
  whole-leads whole = let s = whole 4294967295 0 in leads-none (seen old) (seen new) a b closed named s.settings extends s.seen

  edit-leads : (from removed added : ℕ) → (old.text.begin ≤ from) ⊎ (removed ≡ added) → Stays old a new b from (from + added + 1) (pos added -ℤ pos removed) → Goal (edit from removed added)
  edit-leads from removed added low s = stays-lead from (from + added + 1) (pos added -ℤ pos removed) s (edit-inside old.text.begin from removed added low)

  combined-lead : (f g x y : ℕ) (d e : ℤ) → d ≡ pos 0 → e ≡ pos 0 → Stays old a new b (min f g) (max x y) (pos 0) → Goal (change_of (min f g) (max (moved e x) y) (d +ℤ e))
  combined-lead f g x y d e dz ez s =
      let tails : max (moved e x) y ≡ max x y = ap (λ k. max (moved k x) y) ez ∙ omega arith in
      let sums : (d +ℤ e) ≡ pos 0 = omega (arith, ints) in
      subst (λ tail. Goal (change_of (min f g) tail (d +ℤ e))) (sym tails)
      (subst (λ added. Goal (change_of (min f g) (max x y) added)) (sym sums) (stays-lead (min f g) (max x y) (pos 0) s (none-inside old.text.begin (max x y))))

  both-lead : (before after : ℕ × ℕ) → before.0 ≤ before.1 → after.0 ≤ after.1 → Stays old a new b (min before.0 after.0) (max before.1 after.1 + 1) (pos 0)
      → Goal (join (restyled before) (restyled after))
  both-lead before after first second s =
      by (nat_le (before.0 + n + 1) 4294967295 && is_small (pos n -ℤ pos n)) (nat_le (after.0 + m + 1) 4294967295 && is_small (pos m -ℤ pos m))
    where
      n : ℕ
      n = before.1 - before.0

      m : ℕ
      m = after.1 - after.0

      x : Change
      x = record { head = before.0; tail = before.0 + n + 1; added = pos n -ℤ pos n }

      y : Change
      y = record { head = after.0; tail = after.0 + m + 1; added = pos m -ℤ pos m }

      tails : max before.1 after.1 + 1 ≡ max (before.0 + n + 1) (after.0 + m + 1)
      tails = omega arith

      by : (t u : Bool) → Goal (join (if t then x else all) (if u then y else all))
      by false u = inl refl
      by true false = inl (all-last x)
      by true true =
          either Goal (is_all x || is_all y) _ _ (inl refl)
          (combined-lead before.0 after.0 (before.0 + n + 1) (after.0 + m + 1) x.added y.added (no-more n) (no-more m)
          (subst (λ tail. Stays old a new b (min before.0 after.0) tail (pos 0)) tails s))

  shown-leads : (i k : ℕ) (change : Change) → (k ≡ i → Goal change) → (k ≢ i → Goal none) → Goal (if_shown i k change)
  shown-leads i k change same other = elim (cases_eq i k) [
    | inl p ↦ subst Goal (sym (cond-true (i == k) change none (eq-eqb i k p))) (same (sym p))
    | inr q ↦ subst Goal (sym (cond-false (i == k) change none (ne_eqb i k q))) (other (λ p. q (sym p)))
  ]

  pub effect-leads : (effect : Effect) (number k : ℕ) → HasPlace effect k old → Leaves effect k old a new b → Goal (change_by effect number k)
  effect-leads Nothing number k at leaves = whole-leads leaves
  effect-leads (Edit i from removed added) number k at leaves =
      shown-leads i k (edit from removed added) (λ p. edit-leads from removed added (at p) (leaves.0 p)) (λ q. whole-leads (leaves.1 q))
  effect-leads (Moved i before after) number k at leaves =
      shown-leads i k (join (restyled before) (restyled after)) (λ p. both-lead before after (at p).0 (at p).1 (leaves.0 p)) (λ q. whole-leads (leaves.1 q))
  effect-leads (All i) number k at leaves = shown-leads i k all (λ p. inl refl) (λ q. whole-leads (leaves q))
  effect-leads (Window n) number k at leaves = either Goal (n == number) _ _ (inl refl) (whole-leads leaves)
