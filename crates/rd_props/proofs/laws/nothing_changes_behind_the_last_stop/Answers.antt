use Rattle.rd_props.proofs.Between.{look-alike-back}
use Rattle.rd_props.proofs.laws.nothing_changes_behind_the_last_stop.Goals as goal

pub returns : goal.returns
returns c = look-alike-back
