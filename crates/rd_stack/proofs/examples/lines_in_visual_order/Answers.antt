use Rattle.std.proofs.Common.{refl}
use Rattle.unicode_width.specs.Width.{char_width}
use Rattle.rd_stack.proofs.examples.lines_in_visual_order.Goals as goal

pub returns : goal.returns
unfolding char_width
returns c = record { left = refl; right = refl }
