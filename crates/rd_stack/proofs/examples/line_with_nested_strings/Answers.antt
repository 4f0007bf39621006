use Rattle.std.proofs.Common.{refl}
use Rattle.unicode_width.specs.Width.{char_width}
use Rattle.rd_stack.proofs.examples.line_with_nested_strings.Goals as goal

pub returns : goal.returns
unfolding char_width
returns c = record { overlay = refl; display = refl; right = refl }
