use Rattle.rd_props.proofs.Replacing.{put-edits}
use Rattle.rd_props.proofs.edits.puts_leave_the_rest.Goals as goal

pub returns : goal.returns
returns c = put-edits
