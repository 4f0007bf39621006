use Rattle.rd_lineshift.proofs.Least.{none-least, taken-least}
use Rattle.rd_lineshift.proofs.law.the_shift_taken_costs_the_least.Goals as goal

pub returns : goal.returns
returns c = record { taken = taken-least; none = none-least }
