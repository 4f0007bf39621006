use Rattle.std.proofs.Common.{refl}
use Rattle.std.specs.Fmt.{digits}
use Rattle.std.specs.Char.{encode_utf8}
use Rattle.rd_dump.proofs.examples.worked_dump.Goals as goal

pub returns : goal.returns
unfolding digits encode_utf8
returns c = record {
  row = refl;
  wide = refl;
  windows = refl;
}
