use Rattle.std.proofs.Common.{◌≡◌, drop}
use Rattle.rd_base.specs.Cells.{row_at}
use Rattle.rd_audit.specs.Verdicts.{other_column}
use Rattle.rd_audit.proofs.compare.other_column.Given as goal

abbrev pub invariant-loop-column : goal.invariant-loop-column
invariant-loop-column l = other_column l.column (drop l.column l.cells) (drop l.column (row_at l.terminal.rows l.row)) ≡ other_column 0 l.cells (row_at l.terminal.rows l.row)
