use Rattle.std.proofs.Common.{◌≤◌, ◌+◌, ℕ, None, true, sym, subst}
use Rattle.rd_tests_sessions.proofs.sessions.is_shown.Goals as goal

pub returns-in-Shown-clause-cost : goal.returns-in-Shown-clause-cost
returns-in-Shown-clause-cost g c =
    subst (λ (m : ℕ). c.redisplay.new.steps ≤ c.args.steps.now + m) (sym (c.copies_change_no_allowance.ensures c.args.session.now)) c.redisplay.ensures.steps

pub returns-in-Shown-clause-shown : goal.returns-in-Shown-clause-shown
returns-in-Shown-clause-shown g c =
    λ _. c.sent_redisplays_are_determined.ensures c.in-Shown.field-0 true None c.args.session.now c.redisplay.new.self _ _ c.in-Shown.ensures.redisplayed

pub returns-in_default-clause-cost : goal.returns-in_default-clause-cost
returns-in_default-clause-cost g c =
    subst (λ (m : ℕ). c.redisplay.new.steps ≤ c.args.steps.now + m) (sym (c.copies_change_no_allowance.ensures c.args.session.now)) c.redisplay.ensures.steps
