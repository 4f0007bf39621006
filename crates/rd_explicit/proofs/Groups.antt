-- One item more before the isolating run sequences of the items behind it (BD7, BD13).
use Rattle.std.proofs.Common.{◌≡◌, ◌==◌, Bool, true, false, if◌then◌else◌, List, [], ◌∷◌, Some, refl}
use Rattle.std.proofs.lemmas.Bool.{eq-eqb}
use Rattle.rd_explicit.specs.Follow.{bd13_follower}
use Rattle.rd_explicit.specs.Links.{first_of}
use Rattle.rd_explicit.specs.Sequences.{Item, bd7_level_runs, with_item, has_level, continued, others, bd13_joined_runs}

-- the runs of at least one item begin with one that begins with the first item
pub first_run : (y : Item) (ys : List Item) → (r : List Item) × (rs : List (List Item)) × (bd7_level_runs (y ∷ ys) ≡ (y ∷ r) ∷ rs)
first_run y ys = elim (bd7_level_runs ys) as (λ v. (r : List Item) × (rs : List (List Item)) × (with_item y v ≡ (y ∷ r) ∷ rs)) [
  | [] ↦ ([], [], refl)
  | r ∷ rs ↦ elim (has_level y.level r) as (λ b. (r₁ : List Item) × (rs₁ : List (List Item)) × ((if b then (y ∷ r) ∷ rs else (y ∷ []) ∷ r ∷ rs) ≡ (y ∷ r₁) ∷ rs₁)) [
    | true ↦ (r, rs, refl)
    | false ↦ ([], r ∷ rs, refl)
  ]
]

step_at : (x y : Item) (r : List Item) (rs : List (List Item)) (b : Bool)
    → bd13_joined_runs (if b then (x ∷ y ∷ r) ∷ rs else (x ∷ []) ∷ (y ∷ r) ∷ rs)
    ≡ (x ∷ continued (if b then Some y.index else x.partner) (bd13_joined_runs ((y ∷ r) ∷ rs))) ∷ others (if b then Some y.index else x.partner) (bd13_joined_runs ((y ∷ r) ∷ rs))
step_at x y r rs true = rw (eq-eqb y.index y.index refl) refl
step_at x y r rs false = refl

pub bd13_joined_runs-step : (x : Item) (xs : List Item) → bd13_joined_runs (bd7_level_runs (x ∷ xs))
    ≡ (x ∷ continued (bd13_follower (first_of xs) x.level x.partner) (bd13_joined_runs (bd7_level_runs xs))) ∷ others (bd13_follower (first_of xs) x.level x.partner) (bd13_joined_runs (bd7_level_runs xs))
bd13_joined_runs-step x [] = refl
bd13_joined_runs-step x (y ∷ ys) =
    let f = first_run y ys in
    let e : bd7_level_runs (y ∷ ys) ≡ (y ∷ f.0) ∷ f.1 = f.2 in
    let P : List (List Item) → Type 0 = λ v. bd13_joined_runs (with_item x v)
    ≡ (x ∷ continued (bd13_follower (first_of (y ∷ ys)) x.level x.partner) (bd13_joined_runs v)) ∷ others (bd13_follower (first_of (y ∷ ys)) x.level x.partner) (bd13_joined_runs v) in
    let at_run : P ((y ∷ f.0) ∷ f.1) = step_at x y f.0 f.1 (x.level == y.level) in
    rw e at_run
