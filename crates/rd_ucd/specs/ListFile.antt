-- Files that list codes with something each: lines in the form of `BidiMirroring.txt` and `BidiBrackets.txt`.
use Rattle.std.specs.Prelude.{ℕ, suc, nat_lt, ◌==◌, Bool, if◌then◌else◌, List, [], ◌∷◌, length, slice_index_or, Option, Some, Result, Ok, Err}
use Rattle.std.specs.Str.Lines.{strip_carriage_return}
use Rattle.rd_ucd.specs.declared.fault.UcdFault.{UcdFault}
use Rattle.rd_ucd.specs.declared.fault.UcdFault.TheVariants.{BadLine, BadCode, NotAscending}
use Rattle.rd_ucd.specs.declared.listing.Codes.{Codes}
use Rattle.rd_ucd.specs.Pieces.{uncommented, trimmed}
use Rattle.rd_ucd.specs.Codes.{code_of}
use Rattle.rd_ucd.specs.Lines.{lines_of, fields_of, entries_in}
use Rattle.rd_ucd.specs.Results.{behind}

-- what counts of a line: what stands before a comment
abbrev pub counting : List ℕ → List ℕ
counting line = uncommented (strip_carriage_return line)

-- a line of nothing but blanks is passed over
abbrev pub is_blank_line : List ℕ → Bool
is_blank_line line = length (trimmed (counting line)) == 0

-- the field at an index, without the blanks round it
abbrev pub trimmed_field : List (List ℕ) → ℕ → List ℕ
trimmed_field fields i = trimmed (slice_index_or fields i [])

abbrev pub both : ℕ → Option ℕ → Option ℕ → Result Codes UcdFault
both n (Some code) (Some other) = Ok (record { code = code; other = other })
both n code other = Err (BadCode n)

-- the two codes that line n begins with, where it has just so many fields
abbrev pub codes_of : ℕ → ℕ → List (List ℕ) → Result Codes UcdFault
codes_of count n fields =
    if length fields == count
    then both n (code_of (trimmed_field fields 0)) (code_of (trimmed_field fields 1))
    else Err (BadLine n)

-- the entries that ascend from a code on, or the first fault among them
abbrev pub ascending_from : {E : Type 0} → (E → ℕ) → ℕ → List (ℕ × Result E UcdFault) → Result (List E) UcdFault
ascending_from key least [] = Ok []
ascending_from key least ((n, Err fault) ∷ entries) = Err fault
ascending_from key least ((n, Ok e) ∷ entries) =
    if nat_lt (key e) least then Err (NotAscending n) else behind (e ∷ []) (ascending_from key (suc (key e)) entries)

-- what lines stand for, where each entry is made of the fields of its line and the codes ascend from one on
abbrev pub listed_from : {E : Type 0} → (E → ℕ) → (ℕ → List (List ℕ) → Result E UcdFault) → ℕ → List (ℕ × List ℕ) → Result (List E) UcdFault
listed_from key of_fields least lines = ascending_from key least (entries_in is_blank_line (λ n line. of_fields n (fields_of (counting line))) lines)

-- what a file stands for, where each line that is not passed over gives an entry and the codes of these ascend; else its first fault
abbrev pub listed_in : {E : Type 0} → (E → ℕ) → (ℕ → List (List ℕ) → Result E UcdFault) → List ℕ → Result (List E) UcdFault
listed_in key of_fields bytes = listed_from key of_fields 0 (lines_of bytes)
