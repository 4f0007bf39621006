-- What the steps of reading one line do.
use Rattle.std.specs.Prelude.{◌≡◌, ℕ, ◌+◌, ◌<◌, ◌≤◌, ◌⊎◌, List, [], ◌∷◌, ◌++◌, length, take, drop, Option, None, Some, Result, Ok, Err}
use Rattle.std.specs.Io.KnownBytes.{IsAtEnd}
use Rattle.rd_base.specs.declared.limits.TheConstants.{LINE_BYTES, LINES}
use Rattle.rd_io.specs.Lines.{IsUnbroken, IsWhole, IsLast, Cause}
use Rattle.rd_io.specs.declared.chunk.TheConstants.{READ_BYTES}
use Rattle.rd_io.specs.declared.lines.Found.{Found}
use Rattle.rd_io.specs.declared.lines.Found.TheVariants.{Whole, Last, Over}
use Rattle.rd_io.specs.declared.lines.LineFault.{LineFault}
use Rattle.rd_io.specs.declared.lines.LineFault.TheVariants.{Failed, TooLong, TooMany, Memory}

-- the first newline is at this place
abbrev pub BreaksAt : List ℕ → ℕ → Type 0
BreaksAt bytes i = (i < length bytes) × IsUnbroken (take i bytes) × (bytes ≡ take i bytes ++ 10 ∷ drop (i + 1) bytes)

-- bytes are added to a line, or it would be too long
abbrev pub PutsPiece : Result Unit LineFault → List ℕ → List ℕ → List ℕ → Type 0
PutsPiece (Ok _) old new piece = (new ≡ old ++ piece) × (length new ≤ LINE_BYTES)
PutsPiece (Err TooLong) old new piece = LINE_BYTES < length old + length piece
PutsPiece (Err Memory) old new piece = Unit {0}
PutsPiece (Err fault) old new piece = ⊥

-- A line grows by what these bytes have of it: a piece before a newline, behind which n bytes are used up, or all of them.
abbrev pub TakesPiece : Result (Option ℕ) LineFault → List ℕ → List ℕ → List ℕ → ℕ → Type 0
TakesPiece (Ok (Some n)) old new bytes given =
    (given < LINES) × (n ≤ length bytes) × (length new ≤ LINE_BYTES)
    × ((piece : List ℕ) × (bytes ≡ piece ++ 10 ∷ drop n bytes) × IsUnbroken piece × (new ≡ old ++ piece))
TakesPiece (Ok None) old new bytes given =
    (new ≡ old ++ bytes) × IsUnbroken bytes × ((bytes ≡ []) ⊎ ((given < LINES) × (length new ≤ LINE_BYTES)))
TakesPiece (Err TooLong) old new bytes given =
    (given < LINES) × ((piece rest : List ℕ) × (bytes ≡ piece ++ rest) × IsUnbroken piece × (LINE_BYTES < length old + length piece))
TakesPiece (Err TooMany) old new bytes given = (LINES ≤ given) × (0 < length bytes)
TakesPiece (Err Memory) old new bytes given = (given < LINES) × (0 < length bytes)
TakesPiece (Err Failed) old new bytes given = ⊥

-- an empty rest is no line
abbrev pub IsLeft : Found → List ℕ → Type 0
IsLeft Over line = line ≡ []
IsLeft Last line = 0 < length line
IsLeft Whole line = ⊥

-- Bytes were taken behind those that were held, by reads of at most 8,192 bytes each: none, or what was held and taken before the last
-- read has no newline.
abbrev pub ReadsOn : List ℕ → List ℕ → Type 0
ReadsOn held bytes =
    (bytes ≡ []) ⊎ ((before last : List ℕ) × (bytes ≡ before ++ last) × IsUnbroken (held ++ before) × (length last ≤ READ_BYTES))

-- what the bytes that came begin with
abbrev pub Gathers : Result Found LineFault → List ℕ → List ℕ → List ℕ → ℕ → Option (List ℕ) → Type 0
Gathers (Ok Whole) come line held given left = IsWhole come line held given
Gathers (Ok Last) come line held given left = IsLast come line held given left
Gathers (Ok Over) come line held given left = (come ≡ []) × (held ≡ []) × IsAtEnd left
Gathers (Err fault) come line held given left = Cause fault given come
