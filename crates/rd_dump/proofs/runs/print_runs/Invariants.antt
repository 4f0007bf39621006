use Rattle.std.proofs.Common.{◌≡◌, drop}
use Rattle.rd_io.proofs.Bytes.{Going}
use Rattle.rd_dump.specs.Dumps.{runs_of_row, faces_of}
use Rattle.rd_dump.proofs.OnePass.{open_text}
use Rattle.rd_dump.proofs.runs.print_runs.Given as goal

abbrev pub invariant-loop-cell : goal.invariant-loop-cell
invariant-loop-cell g l = (l.column ≡ l.cell-index) × Going (g.K.Sink.written l.fn.sink) (g.K.Sink.written l.sink) (g.K.Sink.faults l.fn.sink) (g.K.Sink.faults l.sink) (runs_of_row l.fn.cells) (open_text l.run.first l.column l.run.face (faces_of l.run.face (drop l.cell-index l.fn.cells)))
