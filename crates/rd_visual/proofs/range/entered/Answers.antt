use Rattle.rd_visual.proofs.Listing.{first-at}
use Rattle.rd_visual.proofs.range.entered.Goals as goal

pub returns : goal.returns
returns c = first-at _ c.on_way.result c.on_way.ensures
