use Rattle.std.proofs.Common.{refl}
use Rattle.unicode_width.specs.Width.{char_width}
use Rattle.rd_term.proofs.examples.what_moving_needs.Goals as goal

pub returns : goal.returns
unfolding char_width
returns c = record { no_region = refl; no_cursor = refl; above = refl; below = refl; pen = refl; wait = refl; zero = refl; no_number = refl; obeyed = refl }
