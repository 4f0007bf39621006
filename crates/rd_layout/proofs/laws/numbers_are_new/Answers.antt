use Rattle.rd_layout.proofs.Numbering.{number-is-new}
use Rattle.rd_layout.proofs.laws.numbers_are_new.Goals as goal

pub returns : goal.returns
returns c = λ s t op number valid led is. number-is-new s t op number valid led is
