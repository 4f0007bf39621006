use Rattle.rd_script.proofs.Free.{reading-free}
use Rattle.rd_script.proofs.law.no_line_says_want_of_memory.Goals as goal

pub returns : goal.returns
returns c = reading-free
