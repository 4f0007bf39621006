use Rattle.std.proofs.Common.{refl}
use Rattle.rd_visual.proofs.examples.hits_in_a_row_from_the_right_edge.Goals as goal

pub returns : goal.returns
returns c = record { right_of = refl; left_of = refl; cell = refl }
