use Rattle.std.proofs.Common.{◌≡◌, ◌+◌, [], length}
use Rattle.rd_io.specs.Lines.{lines_of}
use Rattle.rd_audit.specs.Dumps.{picture_from}
use Rattle.rd_audit.specs.Results.{IsShape}
use Rattle.rd_audit.proofs.dump.read_group.Given as goal

abbrev pub invariant-loop-line : goal.invariant-loop-line
invariant-loop-line l = record {
  shape : IsShape l.rows;
  whole : picture_from (l.number + length l.rows) l.rows (lines_of l.rest) ≡ picture_from l.number [] (lines_of l.lines);
}

abbrev pub decreases-loop-line : goal.decreases-loop-line
decreases-loop-line l = length l.rest
