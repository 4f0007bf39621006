use Rattle.rd_run.proofs.Headline.{knows-each}
use Rattle.rd_run.specs.Runs.{opened}
use Rattle.rd_run.proofs.law.each_slice_is_known.Goals as goal

pub returns : goal.returns
returns c mode inputs = knows-each (opened mode) inputs (c.a_session_stands_behind_each_line.ensures.leads mode)
