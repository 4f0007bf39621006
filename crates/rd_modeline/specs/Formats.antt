-- The grammar of a format: characters that stand for themselves, and codes that begin with a percent sign.
use Rattle.std.specs.Prelude.{ℕ, ◌+◌, ◌-◌, ◌*◌, ◌==◌, ◌&&◌, ◌≤◌, ◌<◌, ◌≡◌, nat_lt, if◌then◌else◌, List, [], ◌∷◌, drop, length, Option, None, Some, Result, Ok, Err}
use Rattle.std.specs.Char.{is_ascii_digit}
use Rattle.std.specs.Result.{result_err}
use Rattle.rd_ucd.specs.Results.{behind}
use Rattle.rd_modeline.specs.declared.fault.FormatFault.{FormatFault}
use Rattle.rd_modeline.specs.declared.fault.FormatFault.TheVariants.{BadFormat, Memory}
use Rattle.rd_modeline.specs.declared.piece.Field.{Field}
use Rattle.rd_modeline.specs.declared.piece.Field.TheVariants.{Name, Line, Place, ReadOnly, Modified, Narrowing}
use Rattle.rd_modeline.specs.declared.piece.Piece.{Piece}
use Rattle.rd_modeline.specs.declared.piece.Piece.TheVariants.{Literal, Value, Dashes}
use Rattle.rd_modeline.specs.declared.reading.Begun.{Begun}
use Rattle.rd_modeline.specs.declared.reading.Begun.TheVariants.{Text, Percent}
use Rattle.rd_modeline.specs.declared.reading.ReadOn.{ReadOn}
use Rattle.rd_modeline.specs.declared.reading.ReadOn.TheVariants.{On, Ends}

-- the value that a letter asks for: b, l, p, *, + and n
abbrev pub field_of : ℕ → Option Field
field_of c =
    if c == 98 then Some Name
    else if c == 108 then Some Line
    else if c == 112 then Some Place
    else if c == 42 then Some ReadOnly
    else if c == 43 then Some Modified
    else if c == 110 then Some Narrowing
    else None

-- what a hyphen and a second percent sign ask for, which take no width
abbrev pub sign_of : ℕ → ℕ → Option Piece
sign_of digits c =
    if digits == 0 then (if c == 45 then Some Dashes else if c == 37 then Some (Literal c) else None) else None

abbrev pub value_or : Option Field → ℕ → Option Piece → Option Piece
value_or (Some field) width other = Some (Value field width)
value_or None width other = other

-- the piece that a character ends behind a percent sign and so many digits, which make a least width
abbrev pub piece_of : ℕ → ℕ → ℕ → Option Piece
piece_of digits width c = value_or (field_of c) width (sign_of digits c)

-- a piece before those of the rest
abbrev pub before : Piece → Result (List Piece) ℕ → Result (List Piece) ℕ
before p = behind (p ∷ [])

-- a piece before those of the rest, and the place of the percent sign where there is none
abbrev pub before_or : Option Piece → ℕ → Result (List Piece) ℕ → Result (List Piece) ℕ
before_or None start rest = Err start
before_or (Some p) start rest = before p rest

-- The pieces of a format from a place on, or the place of the first percent sign that no code follows. Behind a percent sign come
-- up to three digits and then a letter or a sign.
abbrev pub pieces_from : Begun → ℕ → List ℕ → Result (List Piece) ℕ
pieces_from Text place [] = Ok []
pieces_from (Percent start digits width) place [] = Err start
pieces_from Text place (c ∷ cs) =
    if c == 37 then pieces_from (Percent place 0 0) (place + 1) cs else before (Literal c) (pieces_from Text (place + 1) cs)
pieces_from (Percent start digits width) place (c ∷ cs) =
    if is_ascii_digit c && nat_lt digits 3
    then pieces_from (Percent start (digits + 1) (10 * width + (c - 48))) (place + 1) cs
    else before_or (piece_of digits width c) start (pieces_from Text (place + 1) cs)

abbrev pub pieces_of : List ℕ → Result (List Piece) ℕ
pieces_of format = pieces_from Text 0 format

-- a format is good, or this is the place of its first bad code
abbrev pub Checks : {A : Type 0} → Result A FormatFault → Result (List Piece) ℕ → Type 0
Checks (Ok _) pieces = result_err pieces ≡ None
Checks (Err (BadFormat place)) pieces = result_err pieces ≡ Some place
Checks (Err Memory) pieces = Unit {0}

-- a number of so many digits, at most three
pub record HasDigits (digits width : ℕ) : Type 0 where
  pub none : digits ≡ 0 → width ≡ 0
  pub one : digits ≤ 1 → width ≤ 9
  pub two : digits ≤ 2 → width ≤ 99
  pub three : width ≤ 999
  pub count : digits ≤ 3

-- a width that was begun has at most three digits
abbrev pub IsBegun : Begun → Type 0
IsBegun Text = Unit {0}
IsBegun (Percent start digits width) = HasDigits digits width

-- a width that was begun behind a character has at most three digits
abbrev pub IsBegunBehind : ReadOn → Type 0
IsBegunBehind (On after) = IsBegun after
IsBegunBehind (Ends p) = Unit {0}

-- what the next character makes of the rest, where it goes on with a code or ends a piece, and where it is bad
abbrev pub ReadsOn : Result ReadOn FormatFault → Begun → ℕ → ℕ → Type 0
ReadsOn (Err (BadFormat start)) b place c = (cs : List ℕ) → pieces_from b place (c ∷ cs) ≡ Err start
ReadsOn (Err Memory) b place c = Unit {0}
ReadsOn (Ok (On after)) b place c = (cs : List ℕ) → pieces_from b place (c ∷ cs) ≡ pieces_from after (place + 1) cs
ReadsOn (Ok (Ends p)) b place c = (cs : List ℕ) → pieces_from b place (c ∷ cs) ≡ before p (pieces_from Text (place + 1) cs)

-- the pieces from a place on, where no code is begun
abbrev pub pieces_at : List ℕ → ℕ → Result (List Piece) ℕ
pieces_at text place = pieces_from Text place (drop place text)

-- the piece at a place with the place behind it, the end of the pieces, or where they are bad
abbrev pub IsNext : Result (Option (Piece × ℕ)) FormatFault → List ℕ → ℕ → Type 0
IsNext (Err (BadFormat start)) text place = pieces_at text place ≡ Err start
IsNext (Err Memory) text place = Unit {0}
IsNext (Ok None) text place = pieces_at text place ≡ Ok []
IsNext (Ok (Some (p, end))) text place = (place < end) × (end ≤ length text) × (pieces_at text place ≡ before p (pieces_at text end))
