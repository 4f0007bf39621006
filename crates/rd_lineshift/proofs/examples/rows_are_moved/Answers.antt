use Rattle.std.proofs.Common.{refl}
use Rattle.std.specs.Char.{encode_utf8}
use Rattle.std.specs.Fmt.{digits}
use Rattle.rd_lineshift.proofs.examples.rows_are_moved.Goals as goal

pub returns : goal.returns
unfolding digits encode_utf8
returns c = record { up = refl; down = refl; within = refl; bytes = refl }
