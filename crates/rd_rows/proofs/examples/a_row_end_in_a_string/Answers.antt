use Rattle.std.proofs.Common.{refl}
use Rattle.rd_rows.proofs.examples.a_row_end_in_a_string.Goals as goal

pub returns : goal.returns
returns c = record { cells = refl; begins = refl; weights = refl }
