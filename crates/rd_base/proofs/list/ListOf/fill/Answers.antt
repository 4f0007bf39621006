use Rattle.std.proofs.Common.{rules, ◌≡◌, [], ◌∷◌, List, length, replicate, ap, refl, arith}
use Rattle.std.proofs.lemmas.Grind.{common_steps}
use Rattle.std.specs.List.{FoldsTo}
use Rattle.rd_base.proofs.list.ListOf.fill.Goals as goal

-- what gives a value and stays as it is gives the value each time
all-given : {P A : Type 0} (R : P → A → P → Type 0) (v : A) (p : P) → ((y : A) (q : P) → R p y q → (y ≡ v) × (q ≡ p))
    → (ys : List A) (q : P) → FoldsTo R p ys q → ys ≡ replicate (length ys) v
all-given R v p each [] q ran = refl
all-given R v p each (y ∷ ys) q ran =
    let (same, stays) = each y ran.0 ran.1 in
    rw same (ap (λ ys. v ∷ ys) (all-given R v p each ys q (rw stays at ran.2)))

pub returns : goal.returns
returns g c =
    rw (all-given _ c.args.value _ (λ y q h. search rules) c.fill_with.new.self _ c.fill_with.ensures.ran.1)
    (grind (arith, common_steps, c.fill_with.ensures.len))
