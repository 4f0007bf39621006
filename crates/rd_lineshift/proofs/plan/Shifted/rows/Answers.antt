use Rattle.std.proofs.Common.{◌∙◌, ap}
use Rattle.rd_lineshift.specs.Choices.{choice}
use Rattle.rd_lineshift.specs.Plans.{Shifting, after_shift}
use Rattle.rd_lineshift.proofs.Sending.{plan-is}
use Rattle.rd_lineshift.proofs.plan.Shifted.rows.Goals as goal

pub returns : goal.returns
returns c = λ current target bands e.
    let taken = choice current target bands in
    c.rows.ensures (after_shift taken current) target (ap (λ (s : Shifting). s.plan) (c.self.view_is ∙ e) ∙ plan-is taken current target)
