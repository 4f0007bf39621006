use Rattle.std.proofs.Common.{refl}
use Rattle.std.specs.Fmt.{digits}
use Rattle.rd_run.proofs.examples.a_generated_run_is_summed_up.Goals as goal

pub returns : goal.returns
unfolding digits
returns c = refl
