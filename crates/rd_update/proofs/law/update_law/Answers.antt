use Rattle.rd_update.proofs.Reaching.{updated}
use Rattle.rd_update.proofs.law.update_law.Goals as goal

pub returns : goal.returns
returns c = updated
