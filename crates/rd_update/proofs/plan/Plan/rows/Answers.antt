use Rattle.std.proofs.Common.{◌∙◌, length, ap}
use Rattle.rd_update.specs.Updates.{start, opening}
use Rattle.rd_update.specs.Plans.{Prepared}
use Rattle.rd_update.proofs.Parts.{length-parts}
use Rattle.rd_update.proofs.plan.Plan.rows.Goals as goal

pub returns : goal.returns
returns c = λ current target e.
    c.len.ensures
    ∙ ap (λ (p : Prepared). length p.parts) (c.self.view_is ∙ e)
    ∙ length-parts 0 (length (opening current)) (start current target).rows target.rows
