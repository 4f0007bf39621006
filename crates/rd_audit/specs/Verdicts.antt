-- What an audit answers, and when.
use Rattle.std.specs.Prelude.{◌≡◌, ◌≢◌, ℕ, ◌+◌, ◌<◌, ◌≤◌, ◌⊎◌, Bool, true, false, if◌then◌else◌, List, [], ◌∷◌, ◌++◌, length, Option, None, Some, IfSome, Ok, Err, codes, decimal}
use Rattle.std.specs.Io.KnownBytes.{Appends, IsAtEnd}
use Rattle.rd_base.specs.Equals.{same_cell}
use Rattle.rd_base.specs.declared.cell.Cell.{Cell}
use Rattle.rd_base.specs.declared.limits.TheConstants.{FILE_BYTES, STREAM_BYTES}
use Rattle.rd_io.specs.Devices.{AppendsFront, Rose}
use Rattle.rd_term.specs.Pictures.{Picture, width_of}
use Rattle.rd_term.specs.Terminals.{Tty, Shows, unknown, feed_bytes}
use Rattle.rd_audit.specs.Dumps.{dump_in}
use Rattle.rd_audit.specs.declared.verdict.Verdict.{Verdict}
use Rattle.rd_audit.specs.declared.verdict.Verdict.TheVariants.{Yes, No, Usage, BadDump, TooLong, ReadFault, WriteFault, NoMemory}
use Rattle.rd_audit.specs.declared.verdict.Difference.{Difference}
use Rattle.rd_audit.specs.declared.verdict.Difference.TheVariants as differences

-- ---- what differs

-- whether a cell is known and is this one
abbrev pub is_known : Cell → Option Cell → Bool
is_known cell None = false
is_known cell (Some other) = same_cell other cell

-- the first column, counted on from this one, whose cell is not known or is another, or that only one of the two rows has
abbrev pub other_column : ℕ → List Cell → List (Option Cell) → Option ℕ
other_column column [] [] = None
other_column column [] (other ∷ others) = Some column
other_column column (cell ∷ cells) [] = Some column
other_column column (cell ∷ cells) (other ∷ others) = if is_known cell other then other_column (column + 1) cells others else Some column

abbrev pub place_or : ℕ → Option ℕ → Option (ℕ × ℕ) → Option (ℕ × ℕ)
place_or row None place = place
place_or row (Some column) place = Some (row, column)

-- the row and the column of the first cell that is not known or is another, or that only one of two screens has, row by row
abbrev pub other_place : ℕ → List (List Cell) → List (List (Option Cell)) → Option (ℕ × ℕ)
other_place row [] [] = None
other_place row [] (other ∷ others) = Some (row, 0)
other_place row (cells ∷ rows) [] = Some (row, 0)
other_place row (cells ∷ rows) (other ∷ others) = place_or row (other_column 0 cells other) (other_place (row + 1) rows others)

-- the first of what differs between a picture and what a terminal shows: that it is confused, else a cell, else the cursor
abbrev pub IsDifference : Difference → Picture → Tty → Type 0
IsDifference differences.Confused dump t = t.confused ≡ true
IsDifference (differences.Cell row column) dump t = (t.confused ≡ false) × (other_place 0 dump.rows t.rows ≡ Some (row, column))
IsDifference differences.Cursor dump t =
    (t.confused ≡ false) × (other_place 0 dump.rows t.rows ≡ None) × (t.cursor ≢ Some (dump.row, dump.column))

-- yes where a terminal shows a picture, and else the first of what differs
abbrev pub IsAnswer : Verdict → Picture → Tty → Type 0
IsAnswer Yes dump t = Shows t dump
IsAnswer (No difference) dump t = IsDifference difference dump t
IsAnswer verdict dump t = ⊥

-- ---- what holds where each verdict comes

-- a terminal of a dump's size, of which nothing was known, after these bytes
abbrev pub terminal_after : Picture → List ℕ → Tty
terminal_after dump bytes = feed_bytes (unknown (width_of dump.rows) (length dump.rows)) bytes

-- these bytes are no more than FILE may have, and are its contents, where those are known
abbrev pub IsFile : Option (List ℕ) → List ℕ → Type 0
IsFile told file = (length file ≤ FILE_BYTES) × IfSome told (λ bytes. file ≡ bytes)

-- the file has a line that is bad, or no dump, or too many bytes
abbrev pub IsBadFile : Option (List ℕ) → ℕ → Type 0
IsBadFile told n =
    ((file : List ℕ) × IsFile told file × (dump_in file ≡ Err n)) ⊎ ((n ≡ 0) × IfSome told (λ bytes. FILE_BYTES < length bytes))

-- the bytes taken from the stream are all of it
abbrev pub IsWholeStream : List ℕ → Option (List ℕ) → Type 0
IsWholeStream bytes left = (length bytes ≤ STREAM_BYTES) × IsAtEnd left

-- what holds where a verdict comes on a dump, by the bytes that were taken from the stream, which has `left` then
abbrev pub Judges : Verdict → Picture → List ℕ → Option (List ℕ) → Type 0
Judges TooLong dump bytes left = STREAM_BYTES < length bytes
Judges verdict dump bytes left = IsWholeStream bytes left × IsAnswer verdict dump (terminal_after dump bytes)

-- what holds where a verdict comes on a dump, which may also be that the stream failed or that memory was wanting
abbrev pub JudgesDump : Verdict → Picture → List ℕ → Option (List ℕ) → Type 0
JudgesDump ReadFault dump bytes left = Unit {0}
JudgesDump NoMemory dump bytes left = Unit {0}
JudgesDump verdict dump bytes left = Judges verdict dump bytes left

-- what holds where a verdict comes on what was read of FILE
abbrev pub JudgesFile : Verdict → Option (List ℕ) → List ℕ → Option (List ℕ) → Type 0
JudgesFile (BadDump n) told bytes left = IsBadFile told n × (bytes ≡ [])
JudgesFile ReadFault told bytes left = Unit {0}
JudgesFile NoMemory told bytes left = Unit {0}
JudgesFile verdict told bytes left = (dump : Picture) × ((file : List ℕ) × IsFile told file × (dump_in file ≡ Ok dump)) × Judges verdict dump bytes left

-- what holds where a verdict comes, by the words and by what is known of the files
abbrev pub Comes : Verdict → List (List ℕ) → (List ℕ → Option (List ℕ)) → List ℕ → Option (List ℕ) → Type 0
Comes Usage words told bytes left = (length words ≢ 1) × (bytes ≡ [])
Comes verdict words told bytes left = (name : List ℕ) × (words ≡ name ∷ []) × JudgesFile verdict (told name) bytes left

-- the stream failed, or the file that the only word names
abbrev pub ReadFails : {S F : Type 0} → (S → ℕ) → S → S → (F → List ℕ → ℕ) → F → F → List (List ℕ) → Type 0
ReadFails faults_of old new faults_in before after words =
    Rose (faults_of old) (faults_of new) ⊎ ((name : List ℕ) × (words ≡ name ∷ []) × Rose (faults_in before name) (faults_in after name))

-- the count of what is read is as it was where a verdict comes that is no fault
abbrev pub Keeps : Verdict → ℕ → ℕ → Type 0
Keeps ReadFault before after = Unit {0}
Keeps WriteFault before after = Unit {0}
Keeps verdict before after = after ≡ before

-- the only word names a file with a dump, and the stream has no byte too many
pub record IsSound (words : List (List ℕ)) (told : List ℕ → Option (List ℕ)) (left : Option (List ℕ)) : Type 0 where
  pub name : List ℕ
  pub file : List ℕ
  pub dump : Picture
  pub stream : List ℕ
  pub word : words ≡ name ∷ []
  pub contents : told name ≡ Some file
  pub small : length file ≤ FILE_BYTES
  pub good : dump_in file ≡ Ok dump
  pub bytes : left ≡ Some stream
  pub short : length stream ≤ STREAM_BYTES

-- yes, or no, or that memory was wanting
abbrev pub IsJudged : Verdict → Type 0
IsJudged Yes = Unit {0}
IsJudged (No difference) = Unit {0}
IsJudged NoMemory = Unit {0}
IsJudged verdict = ⊥

-- ---- what is told

-- the line that names a cell, and the one that names a bad line of FILE
abbrev pub cell_line : ℕ → ℕ → List ℕ
cell_line row column = codes "no " ++ (decimal row ++ (codes "," ++ (decimal column ++ codes "\n")))

abbrev pub bad_line : ℕ → List ℕ
bad_line n = codes "dump:" ++ (decimal n ++ codes "\n")

-- the line of what differs
abbrev pub difference_line : Difference → List ℕ
difference_line differences.Confused = codes "no confused\n"
difference_line (differences.Cell row column) = cell_line row column
difference_line differences.Cursor = codes "no cursor\n"

-- the line of a verdict
abbrev pub line_of : Verdict → List ℕ
line_of Yes = codes "yes\n"
line_of (No difference) = difference_line difference
line_of Usage = codes "usage: redisplay_audit FILE\n"
line_of (BadDump n) = bad_line n
line_of TooLong = codes "too long\n"
line_of ReadFault = codes "read fault\n"
line_of WriteFault = []
line_of NoMemory = codes "no memory\n"

-- a verdict comes and its line was written, or the report failed at the line of one that would have come
abbrev pub Answers : Verdict → List (List ℕ) → (List ℕ → Option (List ℕ)) → List ℕ → Option (List ℕ) → Option (List ℕ) → Option (List ℕ) → Type 0
Answers verdict words told bytes left before after =
    (Comes verdict words told bytes left × Appends before after (line_of verdict))
    ⊎ ((verdict ≡ WriteFault) × ((other : Verdict) × Comes other words told bytes left × AppendsFront before after (line_of other)))

-- the exit status of a verdict
abbrev pub code_of : Verdict → ℕ
code_of Yes = 0
code_of (No difference) = 1
code_of Usage = 2
code_of (BadDump n) = 3
code_of TooLong = 4
code_of ReadFault = 5
code_of WriteFault = 6
code_of NoMemory = 7
