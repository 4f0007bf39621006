use Rattle.std.proofs.Common.{refl}
use Rattle.rd_run.proofs.OnRuns.{on_ops}
use Rattle.rd_run.proofs.examples.nothing_is_hit_before_a_redisplay.Goals as goal

pub returns : goal.returns
unfolding on_ops
returns c = record {
  refused = refl;
  accepted = refl;
  starved = refl;
  line = refl;
}
