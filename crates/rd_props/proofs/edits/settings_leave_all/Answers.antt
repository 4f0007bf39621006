use Rattle.rd_props.proofs.Replacing.{settings-edit}
use Rattle.rd_props.proofs.edits.settings_leave_all.Goals as goal

pub returns : goal.returns
returns c = settings-edit
