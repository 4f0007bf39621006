use Rattle.rd_props.proofs.Between.{look-alike}
use Rattle.rd_props.proofs.laws.nothing_changes_before_the_next_stop.Goals as goal

pub returns : goal.returns
returns c = look-alike
