use Rattle.rd_lineshift.proofs.Reaching.{shifted-updated}
use Rattle.rd_lineshift.proofs.law.shift_law.Goals as goal

pub returns : goal.returns
returns c = shifted-updated c.update_law.ensures
