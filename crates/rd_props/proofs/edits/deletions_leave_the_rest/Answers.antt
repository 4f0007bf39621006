use Rattle.rd_props.proofs.Editing.{deletion-edits}
use Rattle.rd_props.proofs.edits.deletions_leave_the_rest.Goals as goal

pub returns : goal.returns
returns c = λ old new objects from to text ordered at edit. deletion-edits old new objects text ordered from to at edit
