use Rattle.rd_rows.proofs.Wholeness.{cutting-measured, whole-line}
use Rattle.rd_rows.proofs.laws.rows_are_whole.Goals as goal

pub returns : goal.returns
returns c = record { cutting = cutting-measured; rows = whole-line }
