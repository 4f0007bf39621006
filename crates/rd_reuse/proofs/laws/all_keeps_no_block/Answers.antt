use Rattle.rd_reuse.proofs.Combining.{all-right, none-kept}
use Rattle.rd_reuse.proofs.laws.all_keeps_no_block.Goals as goal

pub returns-clause-block : goal.returns-clause-block
returns-clause-block c = λ old b some small. none-kept old b some small

pub returns-clause-source : goal.returns-clause-source
returns-clause-source c = λ m old shape source small. all-right m old shape source small
