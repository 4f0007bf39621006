-- The first of a list that passes a test, looked for from the front.
use Rattle.std.proofs.Common.{◌≡◌, ℕ, ◌+◌, Bool, true, false, Option, None, Some, List, drop, sym, ap, ◌∙◌}
use Rattle.std.proofs.lemmas.Bool.{cond-false, cond-true}
use Rattle.std.specs.Prelude.{find, slice_get}
use Rattle.rd_base.proofs.Lists.{drop-at, none-left}

module _ {X : Type 0} (p : X → Bool) (xs : List X) (i : ℕ) (h : find p (drop i xs) ≡ find p xs) where
  pub passes-here : (x : X) → slice_get xs i ≡ Some x → p x ≡ true → Some x ≡ find p xs
  passes-here x at passes = sym (cond-true (p x) (Some x) (find p (drop (i + 1) xs)) passes) ∙ (ap (find p) (sym (drop-at xs i x at)) ∙ h)

  pub passes-later : (x : X) → slice_get xs i ≡ Some x → p x ≡ false → find p (drop (i + 1) xs) ≡ find p xs
  passes-later x at fails = sym (cond-false (p x) (Some x) (find p (drop (i + 1) xs)) fails) ∙ (ap (find p) (sym (drop-at xs i x at)) ∙ h)

  pub passes-never : slice_get xs i ≡ None → None ≡ find p xs
  passes-never past = ap (find p) (sym (none-left xs i past)) ∙ h
