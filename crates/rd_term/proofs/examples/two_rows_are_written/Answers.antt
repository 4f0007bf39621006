use Rattle.std.proofs.Common.{refl}
use Rattle.unicode_width.specs.Width.{char_width}
use Rattle.rd_term.proofs.examples.two_rows_are_written.Goals as goal

pub returns : goal.returns
unfolding char_width
returns c = record { sure = refl; cells = refl; cursor = refl }
