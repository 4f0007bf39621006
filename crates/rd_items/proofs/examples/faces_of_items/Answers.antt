use Rattle.std.proofs.Common.{refl}
use Rattle.unicode_width.specs.Width.{char_width}
use Rattle.rd_items.proofs.examples.faces_of_items.Goals as goal

pub returns : goal.returns
unfolding char_width
returns c = refl
