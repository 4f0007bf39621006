use Rattle.rd_embed.proofs.Stops.{asks-stopped}
use Rattle.rd_embed.proofs.embedded.Embedded.stop.Goals as goal

pub returns-clause-asks : goal.returns-clause-asks
returns-clause-asks c asked h = asks-stopped c.args.ending c.end.result asked c.args.self.now c.end.new.self h c.end.ensures
