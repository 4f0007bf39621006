use Rattle.std.proofs.Common.{refl}
use Rattle.unicode_width.specs.Width.{char_width}
use Rattle.rd_term.proofs.examples.wide_characters_are_cut.Goals as goal

pub returns : goal.returns
unfolding char_width
returns c = record { put = refl; over_first = refl; over_second = refl; erased = refl; room = refl; cursor = refl; wait = refl }
