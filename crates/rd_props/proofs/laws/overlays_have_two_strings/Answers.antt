use Rattle.rd_props.proofs.Few.{within-few}
use Rattle.rd_props.proofs.laws.overlays_have_two_strings.Goals as goal

pub returns : goal.returns
returns c = within-few
