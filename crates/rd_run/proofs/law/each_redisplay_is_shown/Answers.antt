use Rattle.rd_run.proofs.Headline.{shows-each}
use Rattle.rd_run.specs.Runs.{opened}
use Rattle.rd_run.proofs.law.each_redisplay_is_shown.Goals as goal

pub returns : goal.returns
returns c mode inputs = shows-each (opened mode) inputs (c.a_session_stands_behind_each_line.ensures.leads mode)
