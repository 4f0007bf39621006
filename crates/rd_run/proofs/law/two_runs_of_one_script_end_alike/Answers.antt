use Rattle.rd_run.proofs.Alike.{ends-alike}
use Rattle.rd_run.proofs.law.two_runs_of_one_script_end_alike.Goals as goal

pub returns : goal.returns
returns c = ends-alike
