use Rattle.rd_term.proofs.Encoded.{encoded_fed}
use Rattle.rd_term.proofs.laws.characters_are_read.Goals as goal

pub returns : goal.returns
returns c = λ t code sure between scalar plain. rw (sure, between) (encoded_fed t.region t.rows t.cursor t.wait t.pen t.latest code scalar plain)
