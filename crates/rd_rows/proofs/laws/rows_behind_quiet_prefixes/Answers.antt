use Rattle.rd_rows.proofs.LineLaws.{last-rows, begun-rows}
use Rattle.rd_rows.proofs.laws.rows_behind_quiet_prefixes.Goals as goal

pub returns : goal.returns
returns c = record { last = last-rows; begun = λ k es leads end. begun-rows k es leads }
