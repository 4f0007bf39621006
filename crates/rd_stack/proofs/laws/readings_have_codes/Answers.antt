use Rattle.rd_stack.proofs.Codes.{reading-codes}
use Rattle.rd_stack.proofs.laws.readings_have_codes.Goals as goal

pub returns : goal.returns
returns c = reading-codes
