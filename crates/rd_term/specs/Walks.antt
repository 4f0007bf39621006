-- How far a test of places passes.
use Rattle.std.specs.Prelude.{◌≡◌, ℕ, zero, suc, ◌+◌, ◌<◌, ◌≤◌, Bool, if◌then◌else◌}

-- what is answered at each place from one to before another is what this test says
abbrev pub Tells : ℕ → ℕ → (ℕ → Bool → Type 0) → (ℕ → Bool) → Type 0
Tells from end answers test = (place : ℕ) (answer : Bool) → from ≤ place → place < end → answers place answer → answer ≡ test place

-- the last place up to this one at which a test fails, and the first of all where it fails at none
abbrev pub back_while : (ℕ → Bool) → ℕ → ℕ
back_while test zero = 0
back_while test (suc place) = if test (suc place) then back_while test place else suc place

-- at how many of so many places from one on a test passes, up to the first at which it fails
abbrev pub passing : (ℕ → Bool) → ℕ → ℕ → ℕ
passing test place zero = 0
passing test place (suc more) = if test place then 1 + passing test (suc place) more else 0
