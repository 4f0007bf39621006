use Rattle.rd_blocks.specs.Sources.{source_of}
use Rattle.rd_matrix.proofs.HeldLemmas.{asked-within}
use Rattle.rd_blocks.proofs.blocks.BlocksBlockSource.block_of.Goals as goal

pub holding-requires : goal.holding-requires
holding-requires c = asked-within (source_of c.args.self.now) c.args.pos c.rules.ensures c.requires
