use Rattle.std.proofs.Common.{[], ◌∷◌, ◌++◌}
use Rattle.rd_modeline.proofs.Steps.{begun-reading, one-more}
use Rattle.rd_modeline.proofs.reading.check.Goals as goal

pub loop-piece-init : goal.loop-piece-init
loop-piece-init c = ([], begun-reading c.args.text.now)

pub loop-piece-preserved : goal.loop-piece-preserved
loop-piece-preserved c =
    (c.loop-piece.invariant.0 ++ c.in-Some._piece ∷ [], one-more c.args.text.now c.loop-piece.place c.in-Some.behind c.loop-piece.invariant.0 c.in-Some._piece c.in_ok-_piece.field-0 c.loop-piece.invariant.1 c.in-Some.is c.in_ok-_piece.ensures.next)
