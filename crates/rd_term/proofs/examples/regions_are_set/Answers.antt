use Rattle.std.proofs.Common.{refl}
use Rattle.unicode_width.specs.Width.{char_width}
use Rattle.rd_term.proofs.examples.regions_are_set.Goals as goal

pub returns : goal.returns
unfolding char_width
returns c = record { region = refl; cursor = refl; wait = refl; one_row = refl; upward = refl; zero = refl; off = refl; none = refl }
