use Rattle.std.proofs.Common.{refl}
use Rattle.std.specs.Fmt.{digits}
use Rattle.rd_margins.proofs.examples.numbers_of_lines.Goals as goal

pub returns : goal.returns
unfolding digits
returns c = record { one = refl; full = refl; many = refl; narrow = refl; none = refl; behind = refl }
