use Rattle.rd_layout.proofs.Copying.{same-allowed}
use Rattle.rd_layout.proofs.laws.copies_change_no_allowance.Goals as goal

pub returns : goal.returns
returns c = λ v. same-allowed v
