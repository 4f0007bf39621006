use Rattle.std.proofs.Common.{refl}
use Rattle.rd_rows.proofs.examples.breaks_at_the_edge.Goals as goal

pub returns : goal.returns
returns c = record { tab = refl; nothing = refl; space = refl }
