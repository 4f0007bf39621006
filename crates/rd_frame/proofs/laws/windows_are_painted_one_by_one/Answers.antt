use Rattle.rd_frame.proofs.OneByOne.{painted-next}
use Rattle.rd_frame.proofs.laws.windows_are_painted_one_by_one.Goals as goal

pub returns : goal.returns
returns c = painted-next
