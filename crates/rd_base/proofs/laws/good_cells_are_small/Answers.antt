use Rattle.rd_base.proofs.Small.{good-small, row-small}
use Rattle.rd_base.proofs.laws.good_cells_are_small.Goals as goal

pub returns-clause-glyphs : goal.returns-clause-glyphs
returns-clause-glyphs c = good-small

pub returns-clause-rows : goal.returns-clause-rows
returns-clause-rows c = row-small
