use Rattle.std.proofs.Common.{refl}
use Rattle.unicode_width.specs.Width.{char_width}
use Rattle.rd_term.proofs.examples.pens_are_changed.Goals as goal

pub returns : goal.returns
unfolding char_width
returns c = record { two = refl; plain_again = refl; not_known = refl; obeyed = refl; wait = refl; no_number = refl; other = refl; dressed = refl }
