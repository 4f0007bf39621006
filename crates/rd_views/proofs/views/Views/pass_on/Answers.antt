use Rattle.std.proofs.Common.{Ok, refl, subst, sym, ◌∙◌}
use Rattle.rd_layout.specs.Sessions.{Applied, SessionValue}
use Rattle.rd_layout.specs.Since.{IsSession}
use Rattle.rd_views.specs.Held.{session_of}
use Rattle.rd_views.proofs.Passing.{is-behind, is-step, step-is}
use Rattle.rd_views.proofs.views.Views.pass_on.Goals as goal

pub invariant_of-self-2 : goal.invariant_of-self-2
invariant_of-self-2 c =
    let v = session_of c.self.inside in
    let op = c.args.op in
    let state = c.apply.new.self in
    let step = c.in_ok-effect.ensures.applies in
    let new : SessionValue = record v { state = state; layouts = c.note.new.layouts.items } in
    let known = c.sessions_stay_known.ensures.step v op state c.self.invariant c.requires.form (is-step op c.requires.applied) (step-is v op c.requires.applied ∙ step.0) in
    subst IsSession (sym (is-behind v new op c.in_ok-effect.effect refl refl refl step.1 c.note.ensures)) known

pub returns-clause-applies : goal.returns-clause-applies
returns-clause-applies c =
    let v = session_of c.self.inside in
    let op = c.args.op in
    let state = c.apply.new.self in
    let step = c.in_ok-effect.ensures.applies in
    let new : SessionValue = record v { state = state; layouts = c.note.new.layouts.items } in
    subst (λ (old : SessionValue). Applied (Ok tt) op old new) c.self.view_is
    (state, step-is v op c.requires.applied ∙ step.0, is-behind v new op c.in_ok-effect.effect refl refl refl step.1 c.note.ensures)
