use Rattle.std.proofs.Common.{refl}
use Rattle.rd_rows.proofs.examples.a_row_scrolled_by_three.Goals as goal

pub returns : goal.returns
returns c = record { scrolled = refl; unscrolled = refl }
