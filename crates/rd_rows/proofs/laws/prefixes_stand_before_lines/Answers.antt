use Rattle.rd_rows.proofs.Fitting.{cutting-leads}
use Rattle.rd_rows.proofs.laws.prefixes_stand_before_lines.Goals as goal

pub returns : goal.returns
returns c = cutting-leads
