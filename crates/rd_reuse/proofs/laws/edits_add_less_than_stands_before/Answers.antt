use Rattle.std.proofs.Common.{arith}
use Rattle.rd_reuse.proofs.Combining.{edit-is, edit-low}
use Rattle.rd_reuse.proofs.laws.edits_add_less_than_stands_before.Goals as goal

pub returns-clause-change : goal.returns-clause-change
returns-clause-change c = λ from removed added small. edit-is from removed added (omega (arith, small))

pub returns-clause-low : goal.returns-clause-low
returns-clause-low c = edit-low
