use Rattle.rd_layout.proofs.Copying.{same-behind, same-facts, same-step}
use Rattle.rd_layout.proofs.laws.copies_change_no_op.Goals as goal

pub returns-clause-step : goal.returns-clause-step
returns-clause-step c = λ v op. same-step v op

pub returns-clause-behind : goal.returns-clause-behind
returns-clause-behind c = λ v op state. same-behind v op state

pub returns-clause-facts : goal.returns-clause-facts
returns-clause-facts c = λ v. same-facts v
