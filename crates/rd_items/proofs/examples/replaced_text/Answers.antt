use Rattle.std.proofs.Common.{refl}
use Rattle.unicode_width.specs.Width.{char_width}
use Rattle.rd_items.proofs.examples.replaced_text.Goals as goal

pub returns : goal.returns
unfolding char_width
returns c = record { space = refl; string = refl; empty = refl }
