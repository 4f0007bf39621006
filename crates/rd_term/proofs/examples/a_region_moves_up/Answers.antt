use Rattle.std.proofs.Common.{refl}
use Rattle.unicode_width.specs.Width.{char_width}
use Rattle.rd_term.proofs.examples.a_region_moves_up.Goals as goal

pub returns : goal.returns
unfolding char_width
returns c = record { sure = refl; cells = refl; cursor = refl }
