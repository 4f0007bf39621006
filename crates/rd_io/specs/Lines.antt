-- The lines of a text, and what a reader of lines answers.
use Rattle.std.specs.Prelude.{◌≡◌, ◌≢◌, ℕ, ◌+◌, ◌<◌, ◌≤◌, ◌⊎◌, ◌==◌, Bool, true, false, List, [], ◌∷◌, ◌++◌, length, take, if◌then◌else◌, Option, None, Some, Result, Ok, Err, flat_map}
use Rattle.std.specs.List.{AllByRecursion, onto_first}
use Rattle.std.specs.Io.KnownBytes.{IsAtEnd}
use Rattle.rd_base.specs.declared.limits.TheConstants.{LINE_BYTES, LINES}
use Rattle.rd_io.specs.declared.lines.LineFault.{LineFault}
use Rattle.rd_io.specs.declared.lines.LineFault.TheVariants.{Failed, TooLong, TooMany, Memory}

-- the lines of a text: it is cut at each newline, byte 10, and what follows the last one is a line where it is not empty
abbrev pub lines_of : List ℕ → List (List ℕ)
lines_of [] = []
lines_of (b ∷ bs) = if b == 10 then [] ∷ lines_of bs else onto_first b (lines_of bs)

-- no byte is a newline
abbrev pub IsUnbroken : List ℕ → Type 0
IsUnbroken bytes = AllByRecursion (λ b. b ≢ 10) bytes

-- the line that a rest without a newline makes: none where it is empty
abbrev pub last_of : List ℕ → List (List ℕ)
last_of [] = []
last_of (b ∷ bs) = (b ∷ bs) ∷ []

-- lines, each with its newline
abbrev pub text_of_lines : List (List ℕ) → List ℕ
text_of_lines lines = flat_map (λ line. line ++ 10 ∷ []) lines

-- The state of a reader of lines: the bytes that it took from the source and has not given in lines, the line that it lends,
-- how many lines it gave, whether it has met the end of the source, and the fault that it answers from then on.
pub record Reading : Type 0 where
  pub held : List ℕ
  pub line : List ℕ
  pub given : ℕ
  pub ended : Bool
  pub fault : Option LineFault

-- a reader that has read nothing
abbrev pub unread : Reading
unread = record { held = []; line = []; given = 0; ended = false; fault = None }

-- a line may be given: it has no newline and at most 1,048,576 bytes, and is not the 1,000,001st
pub record IsLine (line : List ℕ) (given : ℕ) : Type 0 where
  pub unbroken : IsUnbroken line
  pub short : length line ≤ LINE_BYTES
  pub few : given < LINES

-- a line and its newline are the front of the bytes that came, and this is the rest
pub record IsWhole (come line rest : List ℕ) (given : ℕ) : Type 0 where
  pub fits : IsLine line given
  pub split : come ≡ line ++ 10 ∷ rest

-- the bytes that came are the last line, behind which the source has no byte and no newline
pub record IsLast (come line rest : List ℕ) (given : ℕ) (left : Option (List ℕ)) : Type 0 where
  pub fits : IsLine line given
  pub split : come ≡ line
  pub some : 0 < length line
  pub none : rest ≡ []
  pub end : IsAtEnd left

-- a reader counts the line that it gives, and has met the end behind the last
pub record Gives (old new : Reading) (last : Bool) : Type 0 where
  pub count : new.given ≡ old.given + 1
  pub ended : new.ended ≡ last
  pub fault : new.fault ≡ None

-- no byte is held or taken, and the source has none, or had none when its end was met
pub record GivesNone (old new : Reading) (bytes : List ℕ) (left : Option (List ℕ)) : Type 0 where
  pub split : old.held ++ bytes ≡ []
  pub held : new.held ≡ []
  pub count : new.given ≡ old.given
  pub ended : new.ended ≡ true
  pub end : old.ended ≡ false → IsAtEnd left
  pub fault : new.fault ≡ None

-- What holds where each fault comes: the source failed while the bytes held and taken had no newline, and neither limit was passed; more
-- than 1,048,576 bytes have come without a newline; a byte has come that begins the 1,000,001st line; or memory was wanting for a line of
-- which a byte has come.
abbrev pub Cause : LineFault → ℕ → List ℕ → Type 0
Cause Failed given come = IsUnbroken come × (length come ≤ LINE_BYTES) × ((given < LINES) ⊎ (come ≡ []))
Cause TooLong given come = (given < LINES) × (LINE_BYTES < length come) × IsUnbroken (take (LINE_BYTES + 1) come)
Cause TooMany given come = (LINES ≤ given) × (0 < length come)
Cause Memory given come = (given < LINES) × (0 < length come)

-- the source's count of faults is as it was, unless the source failed
abbrev pub Keeps : {T : Type 0} → Result T LineFault → ℕ → ℕ → Type 0
Keeps (Err Failed) before after = Unit {0}
Keeps result before after = after ≡ before

-- What the reader answers, where it took these bytes from the source, which then has this left.
abbrev pub Answers : Result Bool LineFault → Reading → Reading → List ℕ → Option (List ℕ) → Type 0
Answers (Ok true) old new bytes left =
    (IsWhole (old.held ++ bytes) new.line new.held old.given × Gives old new false)
    ⊎ (IsLast (old.held ++ bytes) new.line new.held old.given left × Gives old new true)
Answers (Ok false) old new bytes left = GivesNone old new bytes left
Answers (Err fault) old new bytes left = Cause fault old.given (old.held ++ bytes) × (new.given ≡ old.given) × (new.fault ≡ Some fault)
