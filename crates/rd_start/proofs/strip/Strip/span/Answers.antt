use Rattle.std.proofs.Common.{arith}
use Rattle.rd_start.proofs.Places.{span-strip_rows}
use Rattle.rd_start.proofs.strip.Strip.span.Goals as goal

pub returns : goal.returns
returns c = λ m h low.
    span-strip_rows m c.args.self.now c.args.from c.args.to c.loop-place.place c.loop-place.span c.requires (omega arith) c.loop-place.invariant h low
