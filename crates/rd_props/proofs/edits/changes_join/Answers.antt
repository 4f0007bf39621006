use Rattle.rd_props.proofs.Joining.{join}
use Rattle.rd_props.proofs.edits.changes_join.Goals as goal

pub returns : goal.returns
returns c = λ old changed new a b d head later_head tail later_tail both_tail added later_added one two low first second.
    join old changed new a b d head later_head tail later_tail both_tail added later_added one two low first second
