use Rattle.std.proofs.Common.{ℕ, List, drop}
use Rattle.std.specs.List.{flat_map}
use Rattle.rd_io.proofs.Bytes.{Going}
use Rattle.rd_dump.specs.Prints.{PrintsItems}
use Rattle.rd_dump.proofs.print.print_each.Given as goal

abbrev pub invariant-loop-item : goal.invariant-loop-item
invariant-loop-item g l = goal.P-IsAlwaysCallable g l.print
    × ((text : g.row.T.Denot → List ℕ) → PrintsItems g.K.Sink.written g.K.Sink.faults text (goal.P-post g l.print)
    → Going (g.K.Sink.written l.fn.sink) (g.K.Sink.written l.sink) (g.K.Sink.faults l.fn.sink) (g.K.Sink.faults l.sink) (flat_map text l.fn.items) (flat_map text (drop l.item-index l.fn.items)))
