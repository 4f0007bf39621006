-- The numbers of a control sequence (ECMA-48, 5.4): decimal, without leading zeros, between semicolons, at most `SEQUENCE_NUMBERS`.
use Rattle.std.specs.Prelude.{ℕ, zero, suc, ◌+◌, ◌*◌, nat_lt, ◌<◌, ◌≤◌, min, Bool, true, false, if◌then◌else◌, List, [], ◌∷◌, ◌++◌, length, Option, None, Some}
use Rattle.rd_base.specs.declared.limits.TheConstants.{SEQUENCE_NUMBERS, SEQUENCE_VALUE}

-- the numbers that a semicolon ended, the number that is being read, and whether a semicolon ended one without digits
pub record ParametersRead : Type 0 where
  pub ended : List ℕ
  pub last : Option ℕ
  pub gap : Bool

abbrev pub no_parameters : ParametersRead
no_parameters = record { ended = []; last = None; gap = false }

-- a number with one more digit; numbers above the greatest, which no sequence can use, count as the greatest
abbrev pub longer : ℕ → ℕ → ℕ
longer n digit = min SEQUENCE_VALUE (10 * n + digit)

-- One more digit. None where it follows a leading zero, or would begin a seventeenth number.
abbrev pub digit_after : ParametersRead → Option ℕ → ℕ → Option ParametersRead
digit_after p None digit = if nat_lt (length p.ended) SEQUENCE_NUMBERS then Some (record p { last = Some digit }) else None
digit_after p (Some zero) digit = None
digit_after p (Some (suc n)) digit = Some (record p { last = Some (longer (suc n) digit) })

abbrev pub with_digit : ParametersRead → ℕ → Option ParametersRead
with_digit p digit = digit_after p p.last digit

-- the numbers of a sequence after a semicolon
abbrev pub separated_after : ParametersRead → Option ℕ → ParametersRead
separated_after p None = record p { gap = true }
separated_after p (Some n) = record { ended = p.ended ++ n ∷ []; last = None; gap = p.gap }

abbrev pub separated : ParametersRead → ParametersRead
separated p = separated_after p p.last

-- the numbers at the sequence's last byte, and None where one has no digits
abbrev pub numbers_from : List ℕ → Option ℕ → Option (List ℕ)
numbers_from ended (Some n) = Some (ended ++ n ∷ [])
numbers_from [] None = Some []
numbers_from (n ∷ ended) None = None

abbrev pub numbers_of : ParametersRead → Option (List ℕ)
numbers_of p = if p.gap then None else numbers_from p.ended p.last

-- a sequence has no more numbers than it may have, the one that is being read among them, and that one is no greater than it may be
abbrev pub HasRoom : List ℕ → Option ℕ → Type 0
HasRoom ended None = length ended ≤ SEQUENCE_NUMBERS
HasRoom ended (Some n) = (length ended < SEQUENCE_NUMBERS) × (n ≤ SEQUENCE_VALUE)
