use Rattle.rd_io.proofs.Cuts.{position-place}
use Rattle.rd_io.proofs.lines.newline_in.Goals as goal

pub returns : goal.returns
returns c = position-place c.args.bytes.now c.position_of_newline.result c.position_of_newline.ensures
