use Rattle.rd_update.proofs.Intervals.{interval-least}
use Rattle.rd_update.proofs.law.intervals_are_least.Goals as goal

pub returns : goal.returns
returns c = interval-least
