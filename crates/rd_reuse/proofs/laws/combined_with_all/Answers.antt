use Rattle.std.proofs.Common.{refl}
use Rattle.rd_reuse.proofs.Combining.{all-last}
use Rattle.rd_reuse.proofs.laws.combined_with_all.Goals as goal

pub returns-clause-first : goal.returns-clause-first
returns-clause-first c = λ x. refl

pub returns-clause-last : goal.returns-clause-last
returns-clause-last c = λ x. all-last x
