use Rattle.rd_state.proofs.Leaves.{placed-leaf}
use Rattle.rd_state.proofs.Showing.{window-valid}
use Rattle.rd_state.proofs.laws.windows_are_leaves.Goals as goal

pub returns-clause-placed : goal.returns-clause-placed
returns-clause-placed c = λ number windows rect window h. placed-leaf number windows rect window h

pub returns-clause-found : goal.returns-clause-found
returns-clause-found c = λ s number w v found. window-valid s number w v found
