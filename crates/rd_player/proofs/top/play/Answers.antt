use Rattle.rd_words.specs.Command.{texts}
use Rattle.rd_words.specs.Words.{values_of}
use Rattle.rd_player.specs.Devices.{drawn_by, given_by, sunk_by}
use Rattle.rd_player.specs.Played.{Played}
use Rattle.rd_player.proofs.Ending.{played-counts, played-free, played-read, unplayed}
use Rattle.rd_player.proofs.top.play.Given as given
use Rattle.rd_player.proofs.top.play.Goals as goal
use Rattle.rd_player.proofs.top.play.Goals.{After-finish, After-run_whole}

-- the lines were run, to whatever end
ran : (g : given.Over) (c : goal.After-run_whole g)
    → Played (given_by (values_of (texts c.args.words.items)) g.F.Files.contents g.F.Files.faults c.args.files.now c.begun.new.files) c.run_whole.result (g.S.Source.left c.args.script.now)
    (drawn_by g.S.Source.left g.S.Source.faults c.args.script.now c.run_whole.new.script) (sunk_by g.K.Sink.written g.K.Sink.faults c.args.screen.now c.run_whole.new.screen)
    (sunk_by g.R.Sink.written g.R.Sink.faults c.args.report.now c.run_whole.new.report) c.args.steps.now c.run_whole.new.steps
ran g c =
    c.run_whole.ensures.played (given_by (values_of (texts c.args.words.items)) g.F.Files.contents g.F.Files.faults c.args.files.now c.begun.new.files) c.in-Ok.ensures.begins.0 c.in-Ok.ensures.begins.2

-- a status came before the first line
none-ran : (g : given.Over) (c : goal.After-finish g)
    → Played (given_by (values_of (texts c.args.words.items)) g.F.Files.contents g.F.Files.faults c.args.files.now c.begun.new.files) c.finish.result (g.S.Source.left c.args.script.now)
    (drawn_by g.S.Source.left g.S.Source.faults c.args.script.now c.args.script.now) (sunk_by g.K.Sink.written g.K.Sink.faults c.args.screen.now c.args.screen.now)
    (sunk_by g.R.Sink.written g.R.Sink.faults c.args.report.now c.finish.new.report) c.args.steps.now c.args.steps.now
none-ran g c =
    unplayed c.in-Err.status (given_by (values_of (texts c.args.words.items)) g.F.Files.contents g.F.Files.faults c.args.files.now c.begun.new.files) (g.S.Source.left c.args.script.now)
    (g.S.Source.faults c.args.script.now) (g.K.Sink.written c.args.screen.now) (g.K.Sink.faults c.args.screen.now) c.finish.result (g.R.Sink.written c.args.report.now) (g.R.Sink.written c.finish.new.report)
    (g.R.Sink.faults c.args.report.now) (g.R.Sink.faults c.finish.new.report) c.args.steps.now c.each_redisplay_is_shown.ensures c.in-Err.ensures.begins c.finish.ensures.finishes

pub returns-in-Ok-clause-ran : goal.returns-in-Ok-clause-ran
returns-in-Ok-clause-ran g c = ran g (goal.at.returns-in-Ok-clause-ran g c).After-run_whole

pub returns-in-Ok-clause-read : goal.returns-in-Ok-clause-read
returns-in-Ok-clause-read g c = played-read _ _ _ _ _ _ _ _ (ran g (goal.at.returns-in-Ok-clause-read g c).After-run_whole)

pub returns-in-Ok-clause-faults : goal.returns-in-Ok-clause-faults
returns-in-Ok-clause-faults g c = played-counts _ _ _ _ _ _ _ _ (ran g (goal.at.returns-in-Ok-clause-faults g c).After-run_whole)

pub returns-in-Ok-clause-no_memory_told : goal.returns-in-Ok-clause-no_memory_told
returns-in-Ok-clause-no_memory_told g c = played-free _ _ _ _ _ _ _ _ (ran g (goal.at.returns-in-Ok-clause-no_memory_told g c).After-run_whole)

pub returns-in-Err-clause-ran : goal.returns-in-Err-clause-ran
returns-in-Err-clause-ran g c = none-ran g (goal.at.returns-in-Err-clause-ran g c).After-finish

pub returns-in-Err-clause-read : goal.returns-in-Err-clause-read
returns-in-Err-clause-read g c = played-read _ _ _ _ _ _ _ _ (none-ran g (goal.at.returns-in-Err-clause-read g c).After-finish)

pub returns-in-Err-clause-faults : goal.returns-in-Err-clause-faults
returns-in-Err-clause-faults g c = played-counts _ _ _ _ _ _ _ _ (none-ran g (goal.at.returns-in-Err-clause-faults g c).After-finish)

pub returns-in-Err-clause-no_memory_told : goal.returns-in-Err-clause-no_memory_told
returns-in-Err-clause-no_memory_told g c = played-free _ _ _ _ _ _ _ _ (none-ran g (goal.at.returns-in-Err-clause-no_memory_told g c).After-finish)
