use Rattle.rd_start.proofs.Inside.{start-inside}
use Rattle.rd_start.proofs.laws.a_start_is_a_row.Goals as goal

pub returns : goal.returns
returns c = λ m shape w source is within. start-inside m shape w source is within
