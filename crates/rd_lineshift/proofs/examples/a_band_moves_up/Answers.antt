use Rattle.std.proofs.Common.{refl}
use Rattle.std.specs.Char.{encode_utf8}
use Rattle.std.specs.Fmt.{digits}
use Rattle.rd_lineshift.proofs.examples.a_band_moves_up.Goals as goal

pub returns : goal.returns
unfolding digits encode_utf8
returns c = (refl, refl)
