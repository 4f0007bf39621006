use Rattle.rd_stack.proofs.Stays.{line-stays, prefix-stays}
use Rattle.rd_stack.proofs.growth.objects_that_are_made_change_no_line.Goals as goal

pub returns-clause-lines : goal.returns-clause-lines
returns-clause-lines c = λ old new base es goes closed made. line-stays old new goes closed base es made

pub returns-clause-prefixes : goal.returns-clause-prefixes
returns-clause-prefixes c = λ old new base number goes closed made. prefix-stays old new goes closed base number made
