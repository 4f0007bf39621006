use Rattle.rd_rows.proofs.Colours.{line-coloured}
use Rattle.rd_rows.proofs.laws.rows_are_coloured.Goals as goal

pub returns : goal.returns
returns c = line-coloured
