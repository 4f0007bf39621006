use Rattle.std.proofs.Common.{refl}
use Rattle.rd_visual.proofs.examples.hits_in_a_row.Goals as goal

pub returns : goal.returns
returns c = record { before = refl; first = refl; last = refl; outside = refl; below = refl }
