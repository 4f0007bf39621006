use Rattle.rd_run.proofs.Fed.{fed-alike}
use Rattle.rd_run.proofs.law.runs_that_are_fed_alike_end_alike.Goals as goal

pub returns : goal.returns
returns c = fed-alike
