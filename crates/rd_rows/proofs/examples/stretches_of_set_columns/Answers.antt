use Rattle.std.proofs.Common.{refl}
use Rattle.rd_rows.proofs.examples.stretches_of_set_columns.Goals as goal

pub returns : goal.returns
returns c = record { whole = refl; cut = refl; next = refl }
