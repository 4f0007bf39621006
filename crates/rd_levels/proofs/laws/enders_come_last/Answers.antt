use Rattle.rd_levels.proofs.Lasts.{ender-last}
use Rattle.rd_levels.proofs.laws.enders_come_last.Goals as goal

pub returns : goal.returns
returns c = ender-last
