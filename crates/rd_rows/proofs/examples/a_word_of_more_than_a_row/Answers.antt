use Rattle.std.proofs.Common.{refl}
use Rattle.rd_rows.proofs.examples.a_word_of_more_than_a_row.Goals as goal

pub returns : goal.returns
returns c = refl
