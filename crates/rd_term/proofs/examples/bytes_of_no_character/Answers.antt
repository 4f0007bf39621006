use Rattle.std.proofs.Common.{refl}
use Rattle.unicode_width.specs.Width.{char_width}
use Rattle.rd_term.proofs.examples.bytes_of_no_character.Goals as goal

pub returns : goal.returns
unfolding char_width
returns c = record { first = refl; overlong = refl; overlong_three = refl; surrogate = refl; overlong_four = refl; past = refl; last = refl; letter = refl; begun = refl }
