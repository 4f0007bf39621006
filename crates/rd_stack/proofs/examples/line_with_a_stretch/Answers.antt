use Rattle.std.proofs.Common.{refl}
use Rattle.unicode_width.specs.Width.{char_width}
use Rattle.rd_stack.proofs.examples.line_with_a_stretch.Goals as goal

pub returns : goal.returns
unfolding char_width
returns c = record { short = refl; passed = refl }
