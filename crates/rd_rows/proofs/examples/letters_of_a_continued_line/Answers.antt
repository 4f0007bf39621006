use Rattle.std.proofs.Common.{refl}
use Rattle.rd_rows.proofs.examples.letters_of_a_continued_line.Goals as goal

pub returns : goal.returns
returns c = record { eleven = refl; twelve = refl; weights = refl; begins = refl }
