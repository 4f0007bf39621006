use Rattle.rd_text.proofs.Coded.{text_codes}
use Rattle.rd_text.proofs.buffer.Buffer.buffers_are_valid.Goals as goal

pub returns-clause-codes : goal.returns-clause-codes
returns-clause-codes c = rw (← c.self.view_is) (text_codes c.self.inside.chars c.self.invariant.3)
