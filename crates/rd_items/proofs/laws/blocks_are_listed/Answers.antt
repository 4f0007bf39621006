use Rattle.rd_items.proofs.Listing.{blocks-listed}
use Rattle.rd_items.proofs.laws.blocks_are_listed.Goals as goal

pub returns : goal.returns
returns c = blocks-listed
