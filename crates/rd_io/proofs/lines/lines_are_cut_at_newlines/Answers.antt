use Rattle.rd_io.proofs.Cuts.{lines-text_of_lines}
use Rattle.rd_io.proofs.lines.lines_are_cut_at_newlines.Goals as goal

pub returns : goal.returns
returns c = lines-text_of_lines
