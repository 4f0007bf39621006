use Rattle.rd_props.proofs.Editing.{insertion-edits}
use Rattle.rd_props.proofs.edits.insertions_leave_the_rest.Goals as goal

pub returns : goal.returns
returns c = λ old new objects place chars text ordered at edit. insertion-edits old new objects text ordered place chars at edit
