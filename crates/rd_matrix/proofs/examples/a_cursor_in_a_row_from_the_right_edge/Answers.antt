use Rattle.std.proofs.Common.{refl}
use Rattle.rd_matrix.proofs.examples.a_cursor_in_a_row_from_the_right_edge.Goals as goal

pub returns : goal.returns
returns c = refl
