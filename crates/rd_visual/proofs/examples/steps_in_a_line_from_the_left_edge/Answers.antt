use Rattle.std.proofs.Common.{refl}
use Rattle.unicode_width.specs.Width.{char_width}
use Rattle.rd_visual.proofs.examples.steps_in_a_line_from_the_left_edge.Goals as goal

pub returns : goal.returns
unfolding char_width
returns c = record { ranges = refl; forward = refl; base = refl; nothing = refl }
