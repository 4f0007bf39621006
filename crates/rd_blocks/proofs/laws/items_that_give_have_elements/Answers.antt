use Rattle.rd_blocks.proofs.Gives.{item-gives}
use Rattle.rd_blocks.proofs.laws.items_that_give_have_elements.Goals as goal

pub returns-clause-some : goal.returns-clause-some
returns-clause-some c s base kind odd face origin = (item-gives c.elements_are_sound.ensures.some s base kind odd face origin).0

pub returns-clause-none : goal.returns-clause-none
returns-clause-none c s base kind odd face origin = (item-gives c.elements_are_sound.ensures.some s base kind odd face origin).1
