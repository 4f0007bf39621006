use Rattle.rd_reuse.proofs.Combining.{none-first, none-last}
use Rattle.rd_reuse.proofs.laws.combined_with_none.Goals as goal

pub returns-clause-first : goal.returns-clause-first
returns-clause-first c = λ x is low. none-first x is low

pub returns-clause-last : goal.returns-clause-last
returns-clause-last c = λ x is. none-last x is
