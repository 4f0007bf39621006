use Rattle.std.proofs.Common.{refl}
use Rattle.rd_rows.proofs.examples.rows_from_right_to_left.Goals as goal

pub returns : goal.returns
returns c = record { continued = refl; begins = refl; wide = refl; scrolled = refl }
