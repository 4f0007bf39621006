use Rattle.std.proofs.lemmas.Result.{IfOk-at_ok}
use Rattle.rd_state.specs.Valid.{IsValid}
use Rattle.rd_state.proofs.AllSteps.{step-valid, opening-valid}
use Rattle.rd_state.proofs.laws.steps_keep_states.Goals as goal

pub returns : goal.returns
returns c = record { opening = opening-valid; step = λ s t op v form h. IfOk-at_ok IsValid h (step-valid s op v form) }
