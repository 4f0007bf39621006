use Rattle.rd_stack.proofs.ReadFew.{reading-few}
use Rattle.rd_stack.proofs.laws.readings_are_few.Goals as goal

pub returns : goal.returns
returns c = reading-few c.overlays_have_two_strings.ensures
