-- How bytes are read: what the next byte gives, by what was read of a sequence or of a character before it. Nothing here knows of
-- what a terminal shows.
use Rattle.std.specs.Prelude.{ℕ, ◌-◌, ◌==◌, nat_lt, nat_le, if◌then◌else◌, ◌||◌, List, Option, None, Some}
use Rattle.std.specs.Char.{is_ascii_digit}
use Rattle.rd_term.specs.Characters.{CharacterRead, begun, with_bits, continued}
use Rattle.rd_term.specs.Controls.{control_of}
use Rattle.rd_term.specs.Parameters.{ParametersRead, no_parameters, with_digit, separated, numbers_of}
use Rattle.rd_term.specs.declared.control.Control.{Control}
use Rattle.rd_term.specs.declared.reading.Reading.{Reading}
use Rattle.rd_term.specs.declared.reading.Reading.TheVariants.{Between, Escaped, Sequence, Character}
use Rattle.rd_term.specs.declared.reading.Step.{Step}
use Rattle.rd_term.specs.declared.reading.Step.TheVariants.{Begins, GoesOn, Prints, Obeys, Fails}

-- the first byte of a character of more than one
abbrev pub after_first : Option CharacterRead → Step
after_first None = Fails
after_first (Some c) = GoesOn (Character c)

-- a digit of a sequence, which fails where that digit may not stand
abbrev pub after_digit : Option ParametersRead → Step
after_digit None = Fails
after_digit (Some parameters) = GoesOn (Sequence parameters)

-- a whole sequence, by its control function and its numbers
abbrev pub at_end : Option Control → Option (List ℕ) → Step
at_end (Some control) (Some numbers) = Obeys control numbers
at_end _ _ = Fails

abbrev pub read_byte : Reading → ℕ → Step
read_byte Between byte =
    if byte == 27 then Begins
    else if nat_lt byte 128 then Prints byte
    else after_first (begun byte)
read_byte Escaped byte = if byte == 91 then GoesOn (Sequence no_parameters) else Fails
read_byte (Sequence parameters) byte =
    if is_ascii_digit byte then after_digit (with_digit parameters (byte - 48))
    else if byte == 59 then GoesOn (Sequence (separated parameters))
    else at_end (control_of byte) (numbers_of parameters)
read_byte (Character c) byte =
    if nat_lt byte c.low || nat_lt c.high byte then Fails
    else if nat_le c.due 1 then Prints (with_bits c byte)
    else GoesOn (Character (continued c byte))
