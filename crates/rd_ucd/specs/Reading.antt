-- Reading a class file line by line, against what the whole file stands for.
use Rattle.std.specs.Prelude.{◌≡◌, ℕ, ◌<◌, List, ◌∷◌, IfSome, Result, Ok, Err}
use Rattle.rd_ucd.specs.declared.fault.UcdFault.{UcdFault}
use Rattle.rd_ucd.specs.declared.fault.UcdFault.TheVariants.{Memory}
use Rattle.rd_ucd.specs.declared.spans.Span.{Span}
use Rattle.rd_ucd.specs.declared.entries.DataEntry.{DataEntry}
use Rattle.rd_ucd.specs.declared.reader.Reader.{Reader}
use Rattle.rd_ucd.specs.Lookup.{IsAscending, AreBelow}
use Rattle.rd_ucd.specs.Lines.{entries_in}
use Rattle.rd_ucd.specs.ClassFile.{is_empty_line, line_entry, spans_from}
use Rattle.rd_ucd.specs.Results.{behind}

-- the ranges that were read ascend, below the code of a First that waits and below `least`
pub record IsReading (reader : Reader) : Type 0 where
  pub ascending : IsAscending (λ s. s.first) (λ s. s.last) reader.spans
  pub below : AreBelow (λ s. s.last) reader.least reader.spans
  pub opened : IfSome reader.opened (λ o. (o.code < reader.least) × AreBelow (λ s. s.last) o.code reader.spans)

-- what the file stands for, where these entries are left, or these lines
abbrev pub whole : Reader → List (ℕ × Result DataEntry UcdFault) → Result (List Span) UcdFault
whole reader entries = behind reader.spans (spans_from reader.least reader.opened entries)

abbrev pub whole_lines : Reader → List (ℕ × List ℕ) → Result (List Span) UcdFault
whole_lines reader lines = whole reader (entries_in is_empty_line line_entry lines)

-- taking an entry changes nothing in the whole, whatever follows
abbrev pub TakesEntry : {T : Type 0} → Result T UcdFault → Reader → Reader → ℕ → DataEntry → Type 0
TakesEntry (Ok _) old new n e = (entries : List (ℕ × Result DataEntry UcdFault)) → whole old ((n, Ok e) ∷ entries) ≡ whole new entries
TakesEntry (Err Memory) old new n e = Unit {0}
TakesEntry (Err fault) old new n e = (entries : List (ℕ × Result DataEntry UcdFault)) → whole old ((n, Ok e) ∷ entries) ≡ Err fault
