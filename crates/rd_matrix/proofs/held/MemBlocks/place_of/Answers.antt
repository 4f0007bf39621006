use Rattle.std.proofs.Common.{subst}
use Rattle.rd_matrix.specs.Held.{AreHeld, blocks_held}
use Rattle.rd_matrix.proofs.HeldLemmas.{start-within, place-found}
use Rattle.rd_matrix.proofs.held.MemBlocks.place_of.Goals as goal

pub find-requires : goal.find-requires
find-requires c = start-within (blocks_held c.args.self.now) c.args.block.now (subst AreHeld c.self.view_is c.self.invariant).stand c.requires

pub returns-clause-there : goal.returns-clause-there
returns-clause-there c = place-found c.args.self.now c.find.result.0 c.find.result.1 c.args.block.now c.find.ensures.held c.requires c.find.ensures.there c.find.ensures.holds
