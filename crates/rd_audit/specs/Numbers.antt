-- Numbers in decimal.
use Rattle.std.specs.Prelude.{ℕ, ◌+◌, ◌-◌, ◌*◌, ◌==◌, nat_le, ◌&&◌, if◌then◌else◌, List, [], ◌∷◌, Option, None, Some, option_and_then}
use Rattle.std.specs.Option.{option_zip}
use Rattle.rd_base.specs.Cuts.{cut}

-- the number of a digit
abbrev pub digit : ℕ → Option ℕ
digit byte = if nat_le 48 byte && nat_le byte 57 then Some (byte - 48) else None

-- the number of a first digit, which is not 0
abbrev pub lead : ℕ → Option ℕ
lead byte = if byte == 48 then None else digit byte

-- a number with one more digit
abbrev pub longer : Option ℕ → Option ℕ → Option ℕ
longer (Some n) (Some d) = Some (10 * n + d)
longer n d = None

-- The number that bytes say in decimal, without leading zeros. One of more than three digits is none: no screen has such a place,
-- and no face such a number.
abbrev pub number_of : List ℕ → Option ℕ
number_of (a ∷ []) = digit a
number_of (a ∷ b ∷ []) = longer (lead a) (digit b)
number_of (a ∷ b ∷ c ∷ []) = longer (longer (lead a) (digit b)) (digit c)
number_of bytes = None

-- the two numbers before and behind the first place of a byte
abbrev pub pair_of : ℕ → List ℕ → Option (ℕ × ℕ)
pair_of byte bytes = option_and_then (λ parts. option_zip (number_of parts.0) (number_of parts.1)) (cut byte bytes)
