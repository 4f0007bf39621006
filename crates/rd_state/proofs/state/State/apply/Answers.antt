use Rattle.rd_state.proofs.AllSteps.{applied-valid}
use Rattle.rd_state.proofs.state.State.apply.Goals as goal

pub invariant_of-self : goal.invariant_of-self
invariant_of-self c = applied-valid c.apply.result c.args.op c.self.inside.parts c.apply.new.self c.steps_keep_states.ensures.step c.self.invariant c.requires.form c.apply.ensures.applies
