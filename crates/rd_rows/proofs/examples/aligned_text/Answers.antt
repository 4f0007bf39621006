use Rattle.std.proofs.Common.{refl}
use Rattle.rd_rows.proofs.examples.aligned_text.Goals as goal

pub returns : goal.returns
returns c = record { before = refl; passed = refl; begun = refl }
