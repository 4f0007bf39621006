use Rattle.std.proofs.Common.{◌≡◌, ℕ, drop, Option, None}
use Rattle.rd_overlays.specs.Values.{last_given}
use Rattle.rd_overlays.proofs.values.last_given.Given as goal

-- none of the numbers from this place on has a value
abbrev pub invariant-loop-place : goal.invariant-loop-place
invariant-loop-place g l = (given : ℕ → Option ℕ) → ((number : ℕ) (answer : Option ℕ) → goal.F-post g l.value number answer → answer ≡ given number)
    → last_given given (drop l.place l.numbers) ≡ None
