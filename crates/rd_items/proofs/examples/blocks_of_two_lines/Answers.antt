use Rattle.std.proofs.Common.{refl}
use Rattle.unicode_width.specs.Width.{char_width}
use Rattle.rd_items.proofs.examples.blocks_of_two_lines.Goals as goal

pub returns : goal.returns
unfolding char_width
returns c = record { cut = refl; whole = refl; first = refl; second = refl; one = refl }
