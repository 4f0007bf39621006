use Rattle.std.proofs.Common.{refl}
use Rattle.unicode_width.specs.Width.{char_width}
use Rattle.rd_term.proofs.examples.marks_join.Goals as goal

pub returns : goal.returns
unfolding char_width
returns c = record { letter = refl; space = refl; sequence = refl; beginning = refl; six = refl; seventh = refl }
