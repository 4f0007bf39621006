-- The lines of a data file and their entries, whatever they are.
use Rattle.std.specs.Prelude.{◌≡◌, ℕ, ◌==◌, Bool, if◌then◌else◌, List, [], ◌∷◌, Result, Ok, Err}
use Rattle.std.specs.List.{enumerate_from, slice_split}
use Rattle.rd_ucd.specs.declared.fault.UcdFault.{UcdFault}
use Rattle.rd_ucd.specs.declared.fault.UcdFault.TheVariants.{Memory}

-- the lines of a file, which end at byte 10, with their numbers from 1
abbrev pub lines_of : List ℕ → List (ℕ × List ℕ)
lines_of bytes = enumerate_from 1 (slice_split (λ b. b == 10) bytes)

-- the fields of a line
abbrev pub fields_of : List ℕ → List (List ℕ)
fields_of line = slice_split (λ b. b == 59) line

-- the entry of each line that is not passed over, with the line's number
abbrev pub entries_in : {E : Type 0} → (List ℕ → Bool) → (ℕ → List ℕ → Result E UcdFault) → List (ℕ × List ℕ) → List (ℕ × Result E UcdFault)
entries_in passed_over entry_of [] = []
entries_in passed_over entry_of ((n, line) ∷ lines) =
    if passed_over line then entries_in passed_over entry_of lines else (n, entry_of n line) ∷ entries_in passed_over entry_of lines

-- reading a line changes nothing in what the file stands for, told by the lines that are left before and after it; a fault is the
-- file's, whatever follows
abbrev pub TakesLine : {T V : Type 0} → Result T UcdFault → (List (ℕ × List ℕ) → Result V UcdFault) → (List (ℕ × List ℕ) → Result V UcdFault) → ℕ → List ℕ → Type 0
TakesLine (Ok _) old new n line = (lines : List (ℕ × List ℕ)) → old ((n, line) ∷ lines) ≡ new lines
TakesLine (Err Memory) old new n line = Unit {0}
TakesLine (Err fault) old new n line = (lines : List (ℕ × List ℕ)) → old ((n, line) ∷ lines) ≡ Err fault

-- reading all lines of a file: what it stands for is what the reader then says, or the fault
abbrev pub ReadsLines : {T V : Type 0} → Result T UcdFault → Result V UcdFault → (T → Result V UcdFault) → Type 0
ReadsLines (Ok reader) right whole = right ≡ whole reader
ReadsLines (Err Memory) right whole = Unit {0}
ReadsLines (Err fault) right whole = right ≡ Err fault
