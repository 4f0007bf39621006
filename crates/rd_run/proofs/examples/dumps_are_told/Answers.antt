use Rattle.std.proofs.Common.{refl}
use Rattle.rd_run.proofs.OnRuns.{on_ops}
use Rattle.rd_run.proofs.examples.dumps_are_told.Goals as goal

pub returns : goal.returns
unfolding on_ops
returns c = record {
  one = refl;
  two = refl;
}
