use Rattle.std.proofs.Common.{refl}
use Rattle.unicode_width.specs.Width.{char_width}
use Rattle.rd_stack.proofs.examples.prefixes_of_one_row.Goals as goal

pub returns : goal.returns
unfolding char_width
returns c = record { row = refl; missing = refl }
