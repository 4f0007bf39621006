use Rattle.std.proofs.Common.{map-id, rules}
use Rattle.rd_modeline.proofs.line.text_of_bytes.Goals as goal

pub returns : goal.returns
returns c = rw map-id at (c.mapped.ensures (λ byte. byte) (λ x y told. search rules))
