-- The values beside positions that are opened or taken away: those before stay, and those behind move; and where a value stood before.
use Rattle.std.proofs.Common.{◌≡◌, ◌⊎◌, inl, inr, ℕ, ◌+◌, ◌-◌, ◌<◌, ◌≤◌, Bool, true, false, if◌then◌else◌, Option, None, Some, refl, sym, ap, ◌∙◌, arith}
use Rattle.std.specs.Prelude.{nat_lt}
use Rattle.std.proofs.lemmas.Bool.{cases_lt}
use Rattle.std.proofs.lemmas.Bool.Decides.{nat_tests}
use Rattle.rd_spans.specs.Values.{values_opened, values_closed}

-- before positions that are opened values stay, and behind them they move
pub opened-before : (values : ℕ → Option ℕ) (pos n p : ℕ) → p < pos → values p ≡ values_opened values pos n p
opened-before values pos n p less = let here : nat_lt p pos ≡ true = grind (arith, nat_tests) in rw here refl

pub opened-behind : (values : ℕ → Option ℕ) (pos n p q : ℕ) → pos ≤ p → p + n ≡ q → values p ≡ values_opened values pos n q
opened-behind values pos n p q less is =
    let one : nat_lt q pos ≡ false = grind (arith, nat_tests) in
    let two : nat_lt q (pos + n) ≡ false = grind (arith, nat_tests) in
    let back : p ≡ q - n = omega arith in
    rw (one, two) (ap values back)

-- before positions that are taken away values stay, and behind them they move
pub closed-before : (values : ℕ → Option ℕ) (from to p : ℕ) → p < from → values p ≡ values_closed values from to p
closed-before values from to p less = let here : nat_lt p from ≡ true = grind (arith, nat_tests) in rw here refl

pub closed-behind : (values : ℕ → Option ℕ) (from to p q : ℕ) → from ≤ q → q + (to - from) ≡ p → values p ≡ values_closed values from to q
closed-behind values from to p q less is = let one : nat_lt q from ≡ false = grind (arith, nat_tests) in rw one (ap values (sym is))

-- where a value stood before positions were opened
pub opened-from : (values : ℕ → Option ℕ) (pos n p v : ℕ) → values_opened values pos n p ≡ Some v → (q : ℕ) × (values q ≡ Some v) × (q ≤ p) × (p ≤ q + n)
opened-from values pos n p v h = by (nat_lt p pos) (nat_lt p (pos + n)) refl refl h
  where
    by : (t u : Bool) → nat_lt p pos ≡ t → nat_lt p (pos + n) ≡ u → (if t then values p else if u then None else values (p - n)) ≡ Some v → (q : ℕ) × (values q ≡ Some v) × (q ≤ p) × (p ≤ q + n)
    by true u ht hu h = (p, h, omega arith, omega arith)
    by false true ht hu h = absurd (cc)
    by false false ht hu h = (p - n, h, omega arith, omega arith)

-- where a value stood before positions were taken away
pub closed-from : (values : ℕ → Option ℕ) (from to p v : ℕ) → values_closed values from to p ≡ Some v
    → (q : ℕ) × (values q ≡ Some v) × (((q ≡ p) × (p < from)) ⊎ ((q ≡ p + (to - from)) × (from ≤ p)))
closed-from values from to p v h = elim (cases_lt p from) [
  | inl less ↦ (p, closed-before values from to p less ∙ h, inl (refl, less))
  | inr more ↦ (p + (to - from), closed-behind values from to (p + (to - from)) p more refl ∙ h, inr (refl, more))
]
