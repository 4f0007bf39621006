-- What the steps of an audit answer.
use Rattle.std.specs.Prelude.{◌≡◌, ℕ, ◌<◌, ◌≤◌, List, [], length, drop, Option, Result, Ok, Err}
use Rattle.rd_base.specs.declared.cell.Cell.{Cell}
use Rattle.rd_base.specs.declared.limits.TheConstants.{FRAME_COLUMNS, FRAME_ROWS, LEAST_FRAME_COLUMNS, STREAM_BYTES}
use Rattle.rd_io.specs.Lines.{lines_of}
use Rattle.rd_term.specs.Pictures.{Picture, IsGrid, width_of}
use Rattle.rd_term.specs.Terminals.{Tty, feed_bytes}
use Rattle.rd_audit.specs.Dumps.{dump_in}
use Rattle.rd_audit.specs.Verdicts.{IsWholeStream, Judges}
use Rattle.rd_audit.specs.declared.verdict.Verdict.{Verdict}
use Rattle.rd_audit.specs.declared.verdict.Verdict.TheVariants.{BadDump, ReadFault, NoMemory}
use Rattle.rd_audit.specs.declared.dump.Dump.{Dump}
use Rattle.rd_audit.specs.declared.dump.DumpFault.{DumpFault}
use Rattle.rd_audit.specs.declared.dump.DumpFault.TheVariants.{Bad, Memory}
use Rattle.rd_audit.specs.declared.dump.LineStart.{LineStart}
use Rattle.rd_audit.specs.declared.stream.StreamFault.{StreamFault}
use Rattle.rd_audit.specs.declared.stream.StreamFault.TheVariants.{Failed, TooLong}

-- the picture that a dump is
abbrev pub picture_in : Dump → Picture
picture_in dump = record { rows = dump.rows; row = dump.row; column = dump.column }

-- a dump or its bad line is what is said, or memory was wanting
abbrev pub IsReadAs : Result Dump DumpFault → Result Picture ℕ → Type 0
IsReadAs (Ok dump) said = said ≡ Ok (picture_in dump)
IsReadAs (Err (Bad n)) said = said ≡ Err n
IsReadAs (Err Memory) said = Unit {0}

-- rows of one width that a frame may have
pub record IsShape (rows : List (List Cell)) : Type 0 where
  pub each : IsGrid (width_of rows) rows
  pub some : 0 < length rows → LEAST_FRAME_COLUMNS ≤ width_of rows
  pub wide : width_of rows ≤ FRAME_COLUMNS
  pub tall : length rows ≤ FRAME_ROWS

-- what holds where a verdict comes, by the bytes of the file
abbrev pub JudgesBytes : Verdict → List ℕ → List ℕ → Option (List ℕ) → Type 0
JudgesBytes (BadDump n) file bytes left = (dump_in file ≡ Err n) × (bytes ≡ [])
JudgesBytes ReadFault file bytes left = Unit {0}
JudgesBytes NoMemory file bytes left = Unit {0}
JudgesBytes verdict file bytes left = (dump : Picture) × (dump_in file ≡ Ok dump) × Judges verdict dump bytes left

-- the number of a line of a file, and the lines from it on
abbrev pub lines_from : List ℕ → LineStart → ℕ × List (List ℕ)
lines_from file start = (start.number, lines_of (drop start.from file))

-- the terminal read these bytes, which are all of the stream, or too many, or the stream failed
abbrev pub Feeds : Result Unit StreamFault → Tty → Tty → List ℕ → Option (List ℕ) → Type 0
Feeds (Ok _) old new bytes left = (new ≡ feed_bytes old bytes) × IsWholeStream bytes left
Feeds (Err TooLong) old new bytes left = STREAM_BYTES < length bytes
Feeds (Err Failed) old new bytes left = Unit {0}

-- the count of the stream is as it was, but where the stream failed
abbrev pub KeepsStream : Result Unit StreamFault → ℕ → ℕ → Type 0
KeepsStream (Err Failed) before after = Unit {0}
KeepsStream result before after = after ≡ before
