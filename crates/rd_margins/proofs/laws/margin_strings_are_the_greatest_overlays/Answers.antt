use Rattle.std.specs.FinMap.{get}
use Rattle.rd_margins.proofs.laws.margin_strings_are_the_greatest_overlays.Goals as goal

pub returns-clause-some : goal.returns-clause-some
returns-clause-some c = λ marks slots pos string is. c.last_values_are_the_greatest_overlays.ensures.some (get marks) slots pos string is

pub returns-clause-none : goal.returns-clause-none
returns-clause-none c = λ marks slots pos number string overlay none shows. c.last_values_are_the_greatest_overlays.ensures.none (get marks) slots pos number string overlay none shows
