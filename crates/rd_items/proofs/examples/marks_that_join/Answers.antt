use Rattle.std.proofs.Common.{refl}
use Rattle.unicode_width.specs.Width.{char_width}
use Rattle.rd_items.proofs.examples.marks_that_join.Goals as goal

pub returns : goal.returns
unfolding char_width
returns c = record { joins = refl; across = refl }
