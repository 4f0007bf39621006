use Rattle.std.proofs.Common.{◌∙◌, length, ap, sym}
use Rattle.rd_lineshift.specs.Choices.{choice}
use Rattle.rd_lineshift.specs.Plans.{Shifting}
use Rattle.rd_lineshift.proofs.Keeping.{moved-sized}
use Rattle.rd_lineshift.proofs.Reaching.{taken-fits}
use Rattle.rd_lineshift.proofs.plan.Shifted.after.Goals as goal

pub after-requires-clause-size : goal.after-requires-clause-size
after-requires-clause-size c =
    let current = c.args.current in
    let target = c.args.target in
    let bands = c.requires.prepared.0 in
    let known = c.requires.prepared.1 in
    moved-sized (choice current target bands) current target c.in-Some-Some.old c.in-Some-Some.screen c.in-Some-Some.is-1
    (sym (ap (λ (s : Shifting). s.screen) (c.self.view_is ∙ known.1)) ∙ c.in-Some-Some.is-0)
    c.requires.size c.width-width.ensures.screen (taken-fits (length target.rows) current target bands known.0)
