use Rattle.std.proofs.Common.{refl}
use Rattle.unicode_width.specs.Width.{char_width}
use Rattle.rd_term.proofs.examples.rows_are_moved.Goals as goal

pub returns : goal.returns
unfolding char_width
returns c = record { inserted = refl; deleted = refl; many = refl; below = refl; cursor = refl; mark = refl }
