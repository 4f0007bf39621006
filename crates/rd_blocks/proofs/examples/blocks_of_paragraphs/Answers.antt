use Rattle.std.proofs.Common.{refl}
use Rattle.rd_blocks.proofs.examples.blocks_of_paragraphs.Goals as goal

pub returns : goal.returns
returns c = record { levels = refl; hidden = refl; narrowed = refl }
