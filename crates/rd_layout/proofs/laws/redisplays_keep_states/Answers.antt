use Rattle.rd_state.proofs.Showing.{window-valid}
use Rattle.rd_layout.specs.Screens.{laid_out}
use Rattle.rd_layout.proofs.Placed.{bands-within}
use Rattle.rd_layout.proofs.Settling.{chosen-accessible, is-shape, state-stays}
use Rattle.rd_layout.proofs.laws.redisplays_keep_states.Goals as goal

pub returns-clause-state : goal.returns-clause-state
unfolding laid_out
returns-clause-state c = state-stays c.view_laws.ensures

pub returns-clause-chosen : goal.returns-clause-chosen
returns-clause-chosen c = λ files s number w place valid lives at.
    chosen-accessible c.view_laws.ensures files s valid number w place at (window-valid s number w valid lives)

pub returns-clause-shape : goal.returns-clause-shape
returns-clause-shape c = λ s number w place valid at. is-shape s valid number w place at

pub returns-clause-bands : goal.returns-clause-bands
returns-clause-bands c = bands-within
