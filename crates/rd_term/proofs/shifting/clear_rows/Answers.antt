use Rattle.std.proofs.Common.{rules}
use Rattle.rd_term.specs.Shifts.{cleared}
use Rattle.rd_term.proofs.shifting.clear_rows.Goals as goal

pub returns : goal.returns
returns c = c.change_each.ensures cleared (λ x y told. search rules)
