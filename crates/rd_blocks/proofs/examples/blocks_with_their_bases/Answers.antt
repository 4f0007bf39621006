use Rattle.std.proofs.Common.{refl}
use Rattle.rd_blocks.proofs.examples.blocks_with_their_bases.Goals as goal

pub returns : goal.returns
returns c = record { text = refl; right = refl; off = refl; empty = refl; last = refl }
