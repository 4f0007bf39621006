use Rattle.rd_script.proofs.GeneratedLines.{form, said}
use Rattle.rd_script.proofs.law.generated_lines_are_ops.Goals as goal

pub returns-clause-read : goal.returns-clause-read
returns-clause-read c = said

pub returns-clause-form : goal.returns-clause-form
returns-clause-form c = form
