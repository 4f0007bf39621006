use Rattle.std.proofs.Common.{refl}
use Rattle.rd_matrix.proofs.examples.rows_of_two_blocks.Goals as goal

pub returns : goal.returns
returns c = record { rows = refl; first = refl; end = refl; before = refl; none = refl }
