use Rattle.std.proofs.Common.{Bool, if◌then◌else◌, ap}
use Rattle.rd_reuse.specs.Keeping.{fresh_cost}
use Rattle.rd_rows.proofs.SameShapes.{shape-itself}
use Rattle.rd_reuse.proofs.laws.kept_rows_cost_nothing.Goals as goal

pub returns : goal.returns
returns c = λ m old change shape b. ap (λ (t : Bool). if t then fresh_cost m old change shape b else m.cost_of b shape) (shape-itself shape)
