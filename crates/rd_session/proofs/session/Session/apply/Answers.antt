use Rattle.std.proofs.Common.{◌≡◌, if◌then◌else◌, None, ap, ◌∙◌}
use Rattle.rd_layout.specs.Sessions.{is_frame}
use Rattle.rd_session.proofs.Leading.{applied-leads}
use Rattle.rd_session.proofs.session.Session.apply.Goals as goal

pub invariant_of-self-2 : goal.invariant_of-self-2
invariant_of-self-2 c =
    let old = c.self.inside.screen in
    let shows : c.forget_if.new.screen ≡ (if is_frame c.args.op then None else old) = c.forget_if.ensures ∙ ap (λ t. if t then None else old) c.is_frame-resizes.ensures in (
      applied-leads c.sessions_stay_known.ensures.step c.self.inside.views c.apply.new.self old c.forget_if.new.screen c.args.op shows c.in_ok-apply.ensures.applies c.self.invariant.0 c.requires.form c.requires.applied,
      c.self.invariant.1,
    )
