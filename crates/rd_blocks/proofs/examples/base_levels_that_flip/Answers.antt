use Rattle.std.proofs.Common.{refl}
use Rattle.unicode_width.specs.Width.{char_width}
use Rattle.rd_blocks.proofs.examples.base_levels_that_flip.Goals as goal

pub returns : goal.returns
unfolding char_width
returns c = refl
