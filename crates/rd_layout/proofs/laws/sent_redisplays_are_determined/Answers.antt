use Rattle.rd_layout.proofs.Determined.{determined}
use Rattle.rd_layout.proofs.laws.sent_redisplays_are_determined.Goals as goal

pub returns : goal.returns
returns c = λ rows done stop old new before after sent. determined rows done stop old new before after sent
