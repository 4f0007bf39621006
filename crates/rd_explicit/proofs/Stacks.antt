-- Stacks: what closing an isolate leaves (X6a).
use Rattle.std.proofs.Common.{◌≡◌, ◌≤◌, List, [], ◌∷◌, length, refl, arith}
use Rattle.std.proofs.lemmas.Bool.{cond_both}
use Rattle.rd_explicit.specs.declared.stack.DirectionalStatus.{DirectionalStatus}
use Rattle.rd_explicit.specs.Explicit.{x6a_below_isolate}

pub x6a_below_isolate-short : (es : List DirectionalStatus) → length es ≤ 1 → x6a_below_isolate es ≡ es
x6a_below_isolate-short [] h = refl
x6a_below_isolate-short (e ∷ []) h = refl
x6a_below_isolate-short (e ∷ f ∷ es) h = absurd (omega arith)

-- what holds of a stack and goes on to each that is left of it holds of what closing an isolate leaves
pub x6a_below_isolate-keeps : (P : List DirectionalStatus → Type 0) → ((e f : DirectionalStatus) (es : List DirectionalStatus) → P (e ∷ f ∷ es) → P (f ∷ es))
    → (es : List DirectionalStatus) → P es → P (x6a_below_isolate es)
x6a_below_isolate-keeps P tail [] h = h
x6a_below_isolate-keeps P tail (e ∷ []) h = h
x6a_below_isolate-keeps P tail (e ∷ f ∷ es) h =
    cond_both e.isolate (f ∷ es) (x6a_below_isolate (f ∷ es)) P (λ _. tail e f es h) (λ _. x6a_below_isolate-keeps P tail (f ∷ es) (tail e f es h))
