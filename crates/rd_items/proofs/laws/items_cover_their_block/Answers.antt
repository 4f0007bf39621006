use Rattle.rd_items.proofs.Tiling.{block-covered}
use Rattle.rd_items.proofs.laws.items_cover_their_block.Goals as goal

pub returns : goal.returns
returns c = block-covered
