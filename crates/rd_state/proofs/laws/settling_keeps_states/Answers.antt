use Rattle.rd_state.proofs.AllSteps.{settled-valid}
use Rattle.rd_state.proofs.laws.settling_keeps_states.Goals as goal

pub returns : goal.returns
returns c = λ s number anchor point v at. settled-valid s number anchor point v at
