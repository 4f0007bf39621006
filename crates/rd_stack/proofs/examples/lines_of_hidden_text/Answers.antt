use Rattle.std.proofs.Common.{refl}
use Rattle.unicode_width.specs.Width.{char_width}
use Rattle.rd_stack.proofs.examples.lines_of_hidden_text.Goals as goal

pub returns : goal.returns
unfolding char_width
returns c = record { ellipsis = refl; nothing = refl; shown = refl }
