use Rattle.std.proofs.Common.{length}
use Rattle.rd_io.proofs.Bytes.{Going}
use Rattle.rd_io.proofs.traits.write_whole.Given as goal

-- the bytes are those that were written and those that are left
abbrev pub invariant-loop-rest : goal.invariant-loop-rest
invariant-loop-rest g l =
    Going (g.K.Sink.written l.fn.sink) (g.K.Sink.written l.sink) (g.K.Sink.faults l.fn.sink) (g.K.Sink.faults l.sink) l.fn.bytes l.rest

abbrev pub decreases-loop-rest : goal.decreases-loop-rest
decreases-loop-rest g l = length l.rest
