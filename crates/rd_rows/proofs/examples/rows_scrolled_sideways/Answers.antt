use Rattle.std.proofs.Common.{refl}
use Rattle.rd_rows.proofs.examples.rows_scrolled_sideways.Goals as goal

pub returns : goal.returns
returns c = record { marks = refl; begins = refl; empty = refl; prefix = refl }
