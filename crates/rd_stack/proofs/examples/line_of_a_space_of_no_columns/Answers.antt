use Rattle.std.proofs.Common.{refl}
use Rattle.unicode_width.specs.Width.{char_width}
use Rattle.rd_stack.proofs.examples.line_of_a_space_of_no_columns.Goals as goal

pub returns : goal.returns
unfolding char_width
returns c = refl
