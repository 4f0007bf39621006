use Rattle.rd_matrix.proofs.HeldLemmas.{next-place}
use Rattle.rd_matrix.proofs.held.MemBlocks.behind.Goals as goal

pub returns : goal.returns
returns c = next-place c.args.self.now c.args.block.now c.place_of-place.result c.block_at.result c.place_of-place.ensures.held c.place_of-place.ensures.there c.block_at.ensures
