-- The class file: lines in the form of `UnicodeData.txt`, and the ranges of codes that they stand for.
use Rattle.std.specs.Prelude.{ℕ, suc, nat_eq, nat_lt, ◌==◌, Bool, true, false, not, ◌&&◌, if◌then◌else◌, List, [], ◌∷◌, length, slice_index_or, Option, None, Some, option_to_list, Result, Ok, Err, codes}
use Rattle.std.specs.List.{ends_with}
use Rattle.std.specs.Str.Lines.{strip_carriage_return}
use Rattle.rd_base.specs.declared.class.Class.{Class}
use Rattle.rd_ucd.specs.declared.fault.UcdFault.{UcdFault}
use Rattle.rd_ucd.specs.declared.fault.UcdFault.TheVariants.{BadLine, BadCode, BadClass, NotAscending, BadRange}
use Rattle.rd_ucd.specs.declared.spans.Span.{Span}
use Rattle.rd_ucd.specs.declared.entries.EntryKind.{EntryKind}
use Rattle.rd_ucd.specs.declared.entries.EntryKind.TheVariants.{Alone, First, Last}
use Rattle.rd_ucd.specs.declared.entries.DataEntry.{DataEntry}
use Rattle.rd_ucd.specs.declared.entries.Opened.{Opened}
use Rattle.rd_ucd.specs.Lines.{lines_of, fields_of, entries_in}
use Rattle.rd_ucd.specs.Results.{behind}
use Rattle.rd_ucd.specs.Codes.{code_of}
use Rattle.rd_ucd.specs.Names.{named, same_class}

-- what the name of an entry says of its place in a range
abbrev pub kind_of_name : List ℕ → EntryKind
kind_of_name name = if ends_with nat_eq name (codes ", First>") then First else (if ends_with nat_eq name (codes ", Last>") then Last else Alone)

abbrev pub coded : ℕ → Option ℕ → EntryKind → Option Class → Result DataEntry UcdFault
coded n None kind class = Err (BadCode n)
coded n (Some code) kind None = Err (BadClass n)
coded n (Some code) kind (Some class) = Ok (record { code = code; kind = kind; class = class })

-- the entry of line n, by its fields: the code, the name and, behind two others, the class
abbrev pub entry_of_fields : ℕ → List (List ℕ) → Result DataEntry UcdFault
entry_of_fields n fields =
    if nat_lt 4 (length fields)
    then coded n (code_of (slice_index_or fields 0 [])) (kind_of_name (slice_index_or fields 1 [])) (named (slice_index_or fields 4 []))
    else Err (BadLine n)

-- an empty line is passed over
abbrev pub is_empty_line : List ℕ → Bool
is_empty_line line = length (strip_carriage_return line) == 0

-- the entry of line n
abbrev pub line_entry : ℕ → List ℕ → Result DataEntry UcdFault
line_entry n line = entry_of_fields n (fields_of (strip_carriage_return line))

abbrev pub is_last : EntryKind → Bool
is_last Last = true
is_last kind = false

-- behind a First stands a Last of the same class, and a Last stands nowhere else
abbrev pub closes : Option Opened → DataEntry → Bool
closes None e = not (is_last e.kind)
closes (Some o) e = is_last e.kind && same_class o.class e.class

-- the fault of an entry that was read, behind an entry whose code is below `least`, and maybe behind a First
abbrev pub fault_of : ℕ → Option Opened → ℕ → DataEntry → Option UcdFault
fault_of least opened n e =
    if nat_lt e.code least then Some (NotAscending n) else (if closes opened e then None else Some (BadRange n))

-- the range that an entry gives: its one code, or all codes from the First to this Last
abbrev pub span_by : EntryKind → Option Opened → DataEntry → Option Span
span_by Alone opened e = Some (record { first = e.code; last = e.code; class = e.class })
span_by First opened e = None
span_by Last None e = None
span_by Last (Some o) e = Some (record { first = o.code; last = e.code; class = e.class })

abbrev pub opened_by : EntryKind → ℕ → DataEntry → Option Opened
opened_by First n e = Some (record { number = n; code = e.code; class = e.class })
opened_by kind n e = None

-- a First that is the last entry is a fault of its own line
abbrev pub ended : Option Opened → Result (List Span) UcdFault
ended None = Ok []
ended (Some o) = Err (BadRange o.number)

abbrev pub unless : Option UcdFault → Result (List Span) UcdFault → Result (List Span) UcdFault
unless None result = result
unless (Some fault) result = Err fault

-- the ranges that entries stand for, or the first fault among them
abbrev pub spans_from : ℕ → Option Opened → List (ℕ × Result DataEntry UcdFault) → Result (List Span) UcdFault
spans_from least opened [] = ended opened
spans_from least opened ((n, Err fault) ∷ entries) = Err fault
spans_from least opened ((n, Ok e) ∷ entries) =
    unless (fault_of least opened n e) (behind (option_to_list (span_by e.kind opened e)) (spans_from (suc e.code) (opened_by e.kind n e) entries))

-- the ranges that a class file stands for, or its first fault
abbrev pub classes_of : List ℕ → Result (List Span) UcdFault
classes_of bytes = spans_from 0 None (entries_in is_empty_line line_entry (lines_of bytes))
