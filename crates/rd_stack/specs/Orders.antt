-- What is known of each of a list by the answers of a closure.
use Rattle.std.specs.Prelude.{◌≡◌}
use Rattle.std.specs.Borrow.{Bor}

-- each answer of a closure is what this function makes of what it was asked
abbrev pub Computes : {T A : Type 0} → (Bor T → A → Type 0) → (T → A) → Type 0
Computes {T} {A} answers made = (x : Bor T) (y : A) → answers x y → y ≡ made x.now
