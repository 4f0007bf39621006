use Rattle.std.proofs.Common.{drop}
use Rattle.rd_term.specs.Pens.{numbers_of_face}
use Rattle.rd_io.proofs.Bytes.{Going}
use Rattle.rd_dump.specs.Dumps.{numbers_text, numbers_behind}
use Rattle.rd_dump.proofs.runs.print_numbers.Given as goal

abbrev pub invariant-loop-number : goal.invariant-loop-number
invariant-loop-number g l = Going (g.K.Sink.written l.fn.sink) (g.K.Sink.written l.sink) (g.K.Sink.faults l.fn.sink) (g.K.Sink.faults l.sink) (numbers_text l.fn.face) (numbers_behind l.any (drop l.number-index (numbers_of_face l.fn.face)))
