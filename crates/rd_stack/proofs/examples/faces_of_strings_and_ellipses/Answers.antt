use Rattle.std.proofs.Common.{refl}
use Rattle.unicode_width.specs.Width.{char_width}
use Rattle.rd_stack.proofs.examples.faces_of_strings_and_ellipses.Goals as goal

pub returns : goal.returns
unfolding char_width
returns c = record { strings = refl; ellipsis = refl }
