use Rattle.std.proofs.Common.{◌∙◌, ℕ, take, ap}
use Rattle.rd_update.specs.Updates.{update}
use Rattle.rd_update.specs.Plans.{Prepared, planned, front_within}
use Rattle.rd_update.specs.declared.plan.Sent.{Sent}
use Rattle.rd_update.proofs.Parts.{front-is}
use Rattle.rd_update.proofs.plan.Plan.send.Goals as goal

pub returns-clause-sends : goal.returns-clause-sends
returns-clause-sends g c = λ current target e.
    let front = front-is current target c.args.rows_at_most in
    let told = c.front-length.ensures.value ∙ ap (λ (p : Prepared). front_within p c.args.rows_at_most) e in
    let all = c.as_slice.ensures ∙ ap (λ (p : Prepared). p.bytes) (c.self.view_is ∙ e) in
    c.send_front.ensures.sends (update current target c.args.rows_at_most)
    (ap (λ (f : ℕ × Sent). take f.0 c.as_slice.result.now) told ∙ ap (take (front_within (planned current target) c.args.rows_at_most).0) all ∙ front.0)
    (ap (λ (f : ℕ × Sent). f.1) told ∙ front.1)
