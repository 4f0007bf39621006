use Rattle.std.proofs.Common.{refl}
use Rattle.unicode_width.specs.Width.{char_width}
use Rattle.rd_glyphs.proofs.examples.plain_lines_are_put.Goals as goal

pub returns : goal.returns
unfolding char_width
returns c = record { filled = refl; cut = refl }
