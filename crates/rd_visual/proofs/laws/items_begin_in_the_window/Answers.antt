use Rattle.rd_visual.proofs.Within.{rows-low}
use Rattle.rd_visual.proofs.laws.items_begin_in_the_window.Goals as goal

pub returns : goal.returns
returns c = rows-low
