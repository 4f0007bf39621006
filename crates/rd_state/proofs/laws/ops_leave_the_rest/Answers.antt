use Rattle.std.proofs.lemmas.Result.{IfOk-at_ok}
use Rattle.rd_state.specs.Changes.{LeavesTheRest}
use Rattle.rd_state.specs.Effects.{effect_of}
use Rattle.rd_state.proofs.Outcomes.{outcome}
use Rattle.rd_state.proofs.laws.ops_leave_the_rest.Goals as goal

pub returns : goal.returns
returns c = λ s t op v form h. IfOk-at_ok (λ u. LeavesTheRest s u (effect_of s op)) h (outcome s op v form)
