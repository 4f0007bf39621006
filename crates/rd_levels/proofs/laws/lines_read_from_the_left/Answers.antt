use Rattle.rd_levels.proofs.FromLeft.{from-left}
use Rattle.rd_levels.proofs.laws.lines_read_from_the_left.Goals as goal

pub returns : goal.returns
returns c = from-left
