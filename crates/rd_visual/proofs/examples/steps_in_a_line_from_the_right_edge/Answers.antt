use Rattle.std.proofs.Common.{refl}
use Rattle.unicode_width.specs.Width.{char_width}
use Rattle.rd_visual.proofs.examples.steps_in_a_line_from_the_right_edge.Goals as goal

pub returns : goal.returns
unfolding char_width
returns c = record { hit = refl; end = refl; cell = refl; ranges = refl; backward = refl; forward = refl }
