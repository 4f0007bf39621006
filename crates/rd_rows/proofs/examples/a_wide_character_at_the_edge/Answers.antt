use Rattle.std.proofs.Common.{refl}
use Rattle.rd_rows.proofs.examples.a_wide_character_at_the_edge.Goals as goal

pub returns : goal.returns
returns c = record { two = refl; three = refl }
