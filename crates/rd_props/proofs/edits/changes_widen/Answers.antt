use Rattle.rd_props.proofs.Joining.{widen}
use Rattle.rd_props.proofs.edits.changes_widen.Goals as goal

pub returns : goal.returns
returns c = λ old new a b head tail lesser greater added same less more. widen old new a b head tail lesser greater added same less more
