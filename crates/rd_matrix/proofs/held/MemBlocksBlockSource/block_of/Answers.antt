use Rattle.rd_matrix.specs.Held.{source_of}
use Rattle.rd_matrix.proofs.HeldLemmas.{asked-within}
use Rattle.rd_matrix.proofs.held.MemBlocksBlockSource.block_of.Goals as goal

pub find-requires : goal.find-requires
find-requires c = asked-within (source_of c.args.self.now) c.args.pos (c.rules.ensures.asked c.args.pos c.requires) c.requires

pub returns-clause-source : goal.returns-clause-source
returns-clause-source c = c.rules.ensures.asked c.args.pos c.requires
