use Rattle.std.proofs.Common.{refl}
use Rattle.rd_glyphs.proofs.examples.marks_join_what_stands_before_them.Goals as goal

pub returns : goal.returns
returns c = record { letter = refl; byte = refl }
