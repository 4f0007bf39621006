use Rattle.std.proofs.Common.{refl}
use Rattle.rd_rows.proofs.examples.tabs_of_a_continued_line.Goals as goal

pub returns : goal.returns
returns c = record { stop = refl; cut = refl; last = refl; next = refl; end = refl }
