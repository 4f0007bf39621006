use Rattle.rd_visual.specs.declared.way.Way.TheVariants.{Forward, Backward}
use Rattle.rd_visual.proofs.Undoing.{undo, undo-side}
use Rattle.rd_visual.proofs.laws.left_undoes_right.Goals as goal

pub returns-clause-forward : goal.returns-clause-forward
returns-clause-forward c = λ s objects files pos next text h. undo s objects files (c.blocks_are_tiled.ensures s text) Forward pos next h

pub returns-clause-backward : goal.returns-clause-backward
returns-clause-backward c = λ s objects files pos next text h. undo s objects files (c.blocks_are_tiled.ensures s text) Backward pos next h

pub returns-clause-right : goal.returns-clause-right
returns-clause-right c = λ s objects files pos next text same h. undo-side s objects files (c.blocks_are_tiled.ensures s text) Forward pos next same h

pub returns-clause-left : goal.returns-clause-left
returns-clause-left c = λ s objects files pos next text same h. undo-side s objects files (c.blocks_are_tiled.ensures s text) Backward pos next same h
