-- Codes: 4 to 6 hexadecimal digits of either case, at most 10FFFF.
use Rattle.std.specs.Prelude.{ℕ, ◌+◌, ◌*◌, nat_lt, if◌then◌else◌, List, [], ◌∷◌, length, Option, None, Some}
use Rattle.std.specs.Char.{digit_value, is_digit}
use Rattle.std.specs.Int.{is_in_range}
use Rattle.rd_base.specs.declared.limits.TheConstants.{CODE_POINTS}

-- the number that the digits write behind those that were read, None where one of them is no digit
abbrev pub number_from : ℕ → List ℕ → Option ℕ
number_from n [] = Some n
number_from n (b ∷ bs) = if is_digit b 16 then number_from (16 * n + digit_value b) bs else None

-- a number where it is a code point, and else None
abbrev pub in_range : Option ℕ → Option ℕ
in_range None = None
in_range (Some n) = if nat_lt n CODE_POINTS then Some n else None

abbrev pub code_of : List ℕ → Option ℕ
code_of digits = if is_in_range 4 6 (length digits) then in_range (number_from 0 digits) else None
