use Rattle.rd_update.proofs.Sequences.{sequence-read}
use Rattle.rd_update.proofs.law.sequences_are_read.Goals as goal

pub returns : goal.returns
returns c = sequence-read
