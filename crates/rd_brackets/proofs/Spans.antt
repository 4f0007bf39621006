-- The types before a place (N0).
use Rattle.std.proofs.Common.{◌≡◌, ℕ, ◌+◌, ◌<◌, true, false, List, length, take, get_or, sym, ap, ◌∙◌}
use Rattle.std.specs.Prelude.{if◌then◌else◌}
use Rattle.std.proofs.lemmas.List.Sums.{fold_more}
use Rattle.rd_base.specs.declared.class.Class.{Class}
use Rattle.rd_base.specs.declared.class.Class.TheVariants.{L, R}
use Rattle.rd_brackets.specs.Sides.{counts_as, last_side}

module _ (before : Class) (ts : List Class) (n m : ℕ) (next : n ≡ m + 1) (inside : m < length ts) where
  cut : last_side before (take n ts) ≡ (if counts_as L (get_or ts m L) then L else (if counts_as R (get_or ts m L) then R else last_side before (take m ts)))
  cut = ap (λ k. last_side before (take k ts)) next ∙ fold_more _ before ts m L inside

  pub last-left : counts_as L (get_or ts m L) ≡ true → last_side before (take n ts) ≡ L
  last-left counts = cut ∙ ap (λ t. if t then L else (if counts_as R (get_or ts m L) then R else last_side before (take m ts))) counts

  pub last-right : counts_as L (get_or ts m L) ≡ false → counts_as R (get_or ts m L) ≡ true → last_side before (take n ts) ≡ R
  last-right fails counts =
      cut ∙ ap (λ t. if t then L else (if counts_as R (get_or ts m L) then R else last_side before (take m ts))) fails
      ∙ ap (λ t. if t then R else last_side before (take m ts)) counts

  pub last-past : counts_as L (get_or ts m L) ≡ false → counts_as R (get_or ts m L) ≡ false → last_side before (take m ts) ≡ last_side before (take n ts)
  last-past fails neither =
      sym (cut ∙ ap (λ t. if t then L else (if counts_as R (get_or ts m L) then R else last_side before (take m ts))) fails
      ∙ ap (λ t. if t then R else last_side before (take m ts)) neither)
