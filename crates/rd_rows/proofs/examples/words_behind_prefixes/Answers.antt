use Rattle.std.proofs.Common.{refl}
use Rattle.rd_rows.proofs.examples.words_behind_prefixes.Goals as goal

pub returns : goal.returns
returns c = record { none = refl; again = refl; weights = refl }
