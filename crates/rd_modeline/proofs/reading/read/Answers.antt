use Rattle.std.proofs.Common.{subst, sym}
use Rattle.rd_modeline.proofs.Steps.{AreRead, one-more}
use Rattle.rd_modeline.proofs.reading.read.Goals as goal

pub loop-pieces-preserved : goal.loop-pieces-preserved
loop-pieces-preserved c =
    subst (AreRead c.args.text.now c.in-Some.behind) (sym c.in_ok-push.ensures.ok)
    (one-more c.args.text.now c.loop-pieces.place c.in-Some.behind c.loop-pieces.pieces c.in-Some.piece c.in_ok-piece.field-0 c.loop-pieces.invariant c.in-Some.is c.in_ok-piece.ensures.next)
