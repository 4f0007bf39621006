use Rattle.std.proofs.Common.{arith}
use Rattle.std.proofs.lemmas.Grind.{common_steps}
use Rattle.rd_modeline.proofs.Steps.{bad-next}
use Rattle.rd_modeline.proofs.reading.next_piece.Goals as goal

pub returns-in_err-after-clause-next : goal.returns-in_err-after-clause-next
returns-in_err-after-clause-next c =
    bad-next c.from_residual.result c.in_err-after.field-0.0 c.loop-place.begun c.args.text.now c.args.from c.loop-place.place c.index-text-place.result c.from_residual.ensures.1 c.in_err-after.ensures.reads
    c.loop-place.invariant.0 (grind (arith, common_steps))
