use Rattle.std.proofs.Common.{◌≡◌, drop, length}
use Rattle.rd_io.proofs.Bytes.{Going}
use Rattle.rd_dump.specs.Dumps.{rows_text}
use Rattle.rd_dump.proofs.dump.print_rows.Given as goal

abbrev pub invariant-loop-row : goal.invariant-loop-row
invariant-loop-row g l = (l.row-end ≡ length l.fn.screen.rows) × Going (g.K.Sink.written l.fn.sink) (g.K.Sink.written l.sink) (g.K.Sink.faults l.fn.sink) (g.K.Sink.faults l.sink) (rows_text 0 l.fn.screen.rows) (rows_text l.row (drop l.row l.fn.screen.rows))
