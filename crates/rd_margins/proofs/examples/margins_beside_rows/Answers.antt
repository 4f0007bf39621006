use Rattle.std.proofs.Common.{refl}
use Rattle.std.specs.Fmt.{digits}
use Rattle.unicode_width.specs.Width.{char_width}
use Rattle.rd_margins.proofs.examples.margins_beside_rows.Goals as goal

pub returns : goal.returns
unfolding digits char_width
returns c = record { number = refl; string = refl; cut = refl; both = refl; later = refl }
