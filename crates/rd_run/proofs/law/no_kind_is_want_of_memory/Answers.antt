use Rattle.rd_run.proofs.Free.{comes-free}
use Rattle.rd_run.proofs.law.no_kind_is_want_of_memory.Goals as goal

pub returns : goal.returns
returns c = comes-free
