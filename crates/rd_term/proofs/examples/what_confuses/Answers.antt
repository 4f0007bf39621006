use Rattle.std.proofs.Common.{refl}
use Rattle.unicode_width.specs.Width.{char_width}
use Rattle.rd_term.proofs.examples.what_confuses.Goals as goal

pub returns : goal.returns
unfolding char_width
returns c = record { pen = refl; wait = refl; erasure = refl; zero = refl; empty = refl; place = refl; byte = refl }
