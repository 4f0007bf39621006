use Rattle.std.proofs.Common.{◌∙◌}
use Rattle.rd_base.proofs.Words.{words_of-told}
use Rattle.rd_base.proofs.cell.Cell.words.Goals as goal

pub returns-in-First-clause-differ : goal.returns-in-First-clause-differ
returns-in-First-clause-differ c = λ other small other_small same.
    words_of-told other c.args.self.now other_small small (same ∙ rw c.in-First.is (cc))
