use Rattle.std.proofs.Common.{refl}
use Rattle.std.specs.Fmt.{digits}
use Rattle.unicode_width.specs.Width.{char_width}
use Rattle.rd_modeline.proofs.examples.values_are_told.Goals as goal

pub returns-clause-line : goal.returns-clause-line
unfolding digits char_width
returns-clause-line c f = refl
