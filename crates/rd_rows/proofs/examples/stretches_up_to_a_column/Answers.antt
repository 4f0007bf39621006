use Rattle.std.proofs.Common.{refl}
use Rattle.rd_rows.proofs.examples.stretches_up_to_a_column.Goals as goal

pub returns : goal.returns
returns c = record { before = refl; passed = refl }
