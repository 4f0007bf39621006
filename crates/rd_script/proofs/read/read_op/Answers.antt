use Rattle.rd_script.proofs.Free.{reading-free}
use Rattle.rd_script.proofs.InForm.{reading-in_form}
use Rattle.rd_script.proofs.read.read_op.Goals as goal

pub returns-in_err-value-clause-form : goal.returns-in_err-value-clause-form
returns-in_err-value-clause-form c = λ op e. reading-in_form c.args.line.now op e

pub returns-in_err-value-clause-no_memory_told : goal.returns-in_err-value-clause-no_memory_told
returns-in_err-value-clause-no_memory_told c = reading-free c.args.line.now

pub returns-in-Some-clause-form : goal.returns-in-Some-clause-form
returns-in-Some-clause-form c = λ op e. reading-in_form c.args.line.now op e

pub returns-in-Some-clause-no_memory_told : goal.returns-in-Some-clause-no_memory_told
returns-in-Some-clause-no_memory_told c = reading-free c.args.line.now
