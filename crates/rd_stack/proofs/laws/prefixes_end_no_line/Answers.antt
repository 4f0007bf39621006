use Rattle.rd_stack.proofs.Ends.{prefix-open}
use Rattle.rd_stack.proofs.laws.prefixes_end_no_line.Goals as goal

pub returns : goal.returns
returns c = prefix-open
