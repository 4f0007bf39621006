use Rattle.std.proofs.Common.{refl}
use Rattle.rd_rows.proofs.examples.a_truncated_line.Goals as goal

pub returns : goal.returns
returns c = record { mark = refl; weight = refl; wide = refl; scrolled = refl; halves = refl }
