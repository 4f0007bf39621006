use Rattle.rd_visual.proofs.Counts.{tiled-block}
use Rattle.rd_visual.proofs.Enders.{order-ends, turns-end}
use Rattle.rd_visual.proofs.laws.enders_have_the_last_range.Goals as goal

pub returns-clause-order : goal.returns-clause-order
returns-clause-order c = λ s objects files b text among. order-ends s objects files b (tiled-block s objects files (c.blocks_are_tiled.ensures s text) b among)

pub returns-clause-visual : goal.returns-clause-visual
returns-clause-visual c = λ s objects files b text among.
    turns-end s objects files b (tiled-block s objects files (c.blocks_are_tiled.ensures s text) b among) c.enders_come_last.ensures b.base
