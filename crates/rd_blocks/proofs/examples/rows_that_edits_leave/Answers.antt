use Rattle.std.proofs.Common.{refl}
use Rattle.unicode_width.specs.Width.{char_width}
use Rattle.rd_blocks.proofs.examples.rows_that_edits_leave.Goals as goal

pub returns : goal.returns
unfolding char_width
returns c = record { typed = refl; united = refl; split = refl; untouched = refl; forgotten = refl }
