use Rattle.rd_run.proofs.Validity.{ends-well}
use Rattle.rd_run.proofs.law.valid_scripts_end_well.Goals as goal

pub returns : goal.returns
returns c = ends-well
