use Rattle.std.proofs.Common.{◌≡◌, ◌==◌, ◌+◌, ◌≤◌, length}
use Rattle.std.specs.List.{enumerate_from, slice_split}
use Rattle.rd_ucd.specs.Lines.{lines_of}
use Rattle.rd_ucd.proofs.lines.read_lines.Given as goal

abbrev pub invariant-lines : goal.invariant-lines
invariant-lines g l = record {
  reading : g.R.LineReader.is_reading l.reader;
  whole : g.R.LineReader.whole l.reader (enumerate_from l.number (slice_split (λ b. b == 10) l.rest)) ≡ g.R.LineReader.whole l.fn.reader (lines_of l.bytes);
  number : l.number + length l.rest ≤ length l.bytes + 1;
}

abbrev pub decreases-lines : goal.decreases-lines
decreases-lines g l = length l.rest
