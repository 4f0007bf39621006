use Rattle.std.proofs.Common.{refl}
use Rattle.rd_rows.proofs.examples.rows_behind_prefixes.Goals as goal

pub returns : goal.returns
returns c = record { cells = refl; weights = refl; begins = refl; row_end = refl; cut = refl; tab = refl }
