use Rattle.rd_words.specs.Command.{meaning}
use Rattle.rd_files.specs.DataFiles.{meaning as files_meaning}
use Rattle.rd_player.proofs.Opening.{fault-begins, opened-begins}
use Rattle.rd_player.proofs.top.begun_with.Goals as goal

pub returns-in-Ok-clause-begins : goal.returns-in-Ok-clause-begins
returns-in-Ok-clause-begins g c =
    opened-begins c.new_run.result (files_meaning c.in-Ok.data) (meaning c.args.words.now) (g.F.Files.contents c.args.files.now) (g.F.Files.faults c.args.files.now) (g.F.Files.faults c.read_data.new.files)
    c.new_run.ensures c.in-Ok.ensures.read c.in-Ok.ensures.kept

pub returns-in-Err-clause-begins : goal.returns-in-Err-clause-begins
returns-in-Err-clause-begins g c =
    fault-begins c.in-Err.fault c.status_of.result (meaning c.args.words.now) (g.F.Files.contents c.args.files.now) (g.F.Files.faults c.args.files.now) (g.F.Files.faults c.read_data.new.files) c.status_of.ensures
    c.in-Err.ensures.read c.in-Err.ensures.kept
