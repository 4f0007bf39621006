use Rattle.rd_props.proofs.Replacing.{objects-edit}
use Rattle.rd_props.proofs.edits.new_objects_leave_all.Goals as goal

pub returns : goal.returns
returns c = λ s old new head tail extends made. objects-edit s old new extends made head tail
