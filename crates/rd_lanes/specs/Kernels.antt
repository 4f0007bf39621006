-- What the searches answer.
use Rattle.std.specs.Prelude.{ℕ, ◌-◌, ◌==◌, nat_lt, Bool, not, if◌then◌else◌, Option, None, Some, List, length, zip}
use Rattle.std.specs.List.{suffix_len, position}

-- the last place at which a test passes, as `position` is the first
abbrev pub last_position : {X : Type 0} → (X → Bool) → List X → Option ℕ
last_position p xs = if nat_lt (suffix_len (λ x. not (p x)) xs) (length xs) then Some (length xs - suffix_len (λ x. not (p x)) xs - 1) else None

-- whether a number of one list and that at the same place of another are not equal
abbrev pub differs : ℕ × ℕ → Bool
differs p = not (p.0 == p.1)

-- the first and the last place at which two lists differ
abbrev pub first_difference : List ℕ → List ℕ → Option ℕ
first_difference a b = position differs (zip a b)

abbrev pub last_difference : List ℕ → List ℕ → Option ℕ
last_difference a b = last_position differs (zip a b)
