use Rattle.std.proofs.Common.{refl}
use Rattle.rd_rows.proofs.examples.words_of_a_line.Goals as goal

pub returns : goal.returns
returns c = record { cells = refl; weights = refl; begins = refl }
