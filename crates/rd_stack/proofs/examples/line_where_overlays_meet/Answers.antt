use Rattle.std.proofs.Common.{refl}
use Rattle.unicode_width.specs.Width.{char_width}
use Rattle.rd_stack.proofs.examples.line_where_overlays_meet.Goals as goal

pub returns : goal.returns
unfolding char_width
returns c = refl
