use Rattle.rd_levels.proofs.Lengths.{line-length}
use Rattle.rd_levels.proofs.laws.lines_have_a_level_each.Goals as goal

pub returns : goal.returns
returns c = line-length
