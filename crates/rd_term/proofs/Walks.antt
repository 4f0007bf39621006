-- How far a test of places passes, one place after another.
use Rattle.std.proofs.Common.{◌≡◌, if◌then◌else◌, ◌⊎◌, ℕ, zero, suc, ◌+◌, ◌-◌, ◌<◌, ◌≤◌, Bool, true, false, inl, inr, refl, sym, ap, ◌∙◌, arith}
use Rattle.std.proofs.lemmas.Bool.{cases_eq}
use Rattle.rd_base.proofs.Choices.{either}
use Rattle.rd_term.specs.Walks.{back_while, passing}

pub back-le : (test : ℕ → Bool) (place : ℕ) → back_while test place ≤ place
back-le test zero = omega arith
back-le test (suc place) = either (λ n. n ≤ suc place) (test (suc place)) (back_while test place) (suc place) (omega (arith, back-le test place)) (omega arith)

pub back-passes : (test : ℕ → Bool) (place : ℕ) → 0 < place → test place ≡ true → back_while test (place - 1) ≡ back_while test place
back-passes test zero some e = absurd (omega arith)
back-passes test (suc place) some e =
    let back : suc place - 1 ≡ place = omega arith in
    rw (e, back) refl

pub back-fails : (test : ℕ → Bool) (place : ℕ) → test place ≡ false → back_while test place ≡ place
back-fails test zero e = refl
back-fails test (suc place) e = rw e refl

pub on-passes : (test : ℕ → Bool) (place more : ℕ) → 0 < more → test place ≡ true → passing test place more ≡ 1 + passing test (place + 1) (more - 1)
on-passes test place zero some e = absurd (omega arith)
on-passes test place (suc more) some e =
    let next : place + 1 ≡ suc place = omega arith in
    let back : suc more - 1 ≡ more = omega arith in
    rw (e, next, back) refl

pub on-fails : (test : ℕ → Bool) (place more : ℕ) → test place ≡ false → passing test place more ≡ 0
on-fails test place zero e = refl
on-fails test place (suc more) e = rw e refl

pub back-none : (test : ℕ → Bool) (place : ℕ) → place ≤ 0 → place ≡ back_while test place
back-none test zero e = refl
back-none test (suc place) e = absurd (omega arith)

pub on-none : (test : ℕ → Bool) (place more : ℕ) → more ≡ 0 → passing test place more ≡ 0
on-none test place more e = rw e refl

pub on-le : (test : ℕ → Bool) (place more : ℕ) → passing test place more ≤ more
on-le test place zero = omega arith
on-le test place (suc more) = grind (arith, on-le test (suc place) more)

back-stops-chosen : (test : ℕ → Bool) (place stop : ℕ) (b : Bool) → test (suc place) ≡ b → (stop ≡ 0) ⊎ (test stop ≡ false)
    → ((if b then stop else suc place) ≡ 0) ⊎ (test (if b then stop else suc place) ≡ false)
back-stops-chosen test place stop true e h = h
back-stops-chosen test place stop false e h = inr e

-- a walk back stops at the first place of all, or where the test fails
pub back-stops : (test : ℕ → Bool) (place : ℕ) → (back_while test place ≡ 0) ⊎ (test (back_while test place) ≡ false)
back-stops test zero = inl refl
back-stops test (suc place) = back-stops-chosen test place (back_while test place) (test (suc place)) refl (back-stops test place)

-- a walk back passes no place at which the test fails
pub back-greatest : (test : ℕ → Bool) (k place : ℕ) → test k ≡ false → k ≤ place → k ≤ back_while test place
back-greatest test k zero e le = le
back-greatest test k (suc place) e le = elim (cases_eq k (suc place)) [
  | inl same ↦ omega (arith, le, back-fails test (suc place) (ap test (sym same) ∙ e))
  | inr other ↦
      let rest = back-greatest test k place e (omega (arith, le, other)) in
      grind (arith, rest, other, le)
]

on-stops-chosen : (test : ℕ → Bool) (place n : ℕ) (b : Bool) → test place ≡ b → test (suc place + n) ≡ false → test (place + (if b then 1 + n else 0)) ≡ false
on-stops-chosen test place n true e h =
    let next : place + (1 + n) ≡ suc place + n = omega arith in
    ap test next ∙ h
on-stops-chosen test place n false e h =
    let here : place + 0 ≡ place = omega arith in
    ap test here ∙ e

-- where the test fails behind the last place, it fails at the place at which the walk stops
pub on-stops : (test : ℕ → Bool) (place more : ℕ) → test (place + more) ≡ false → test (place + passing test place more) ≡ false
on-stops test place zero e = e
on-stops test place (suc more) e =
    let next : suc place + more ≡ place + suc more = omega arith in
    on-stops-chosen test place (passing test (suc place) more) (test place) refl (on-stops test (suc place) more (ap test next ∙ e))

-- a walk on passes no place at which the test fails
pub on-least : (test : ℕ → Bool) (place more k : ℕ) → test k ≡ false → place ≤ k → place + passing test place more ≤ k
on-least test place zero k e le = omega arith
on-least test place (suc more) k e le = elim (cases_eq k place) [
  | inl same ↦ omega (arith, le, on-fails test place (suc more) (ap test (sym same) ∙ e))
  | inr other ↦
      let rest = on-least test (suc place) more k e (omega (arith, le, other)) in
      grind (arith, rest, other, le)
]
