use Rattle.std.proofs.Common.{◌≡◌, sym, subst}
use Rattle.rd_matrix.specs.Blocks.{end_from}
use Rattle.rd_matrix.specs.Held.{blocks_held}
use Rattle.rd_matrix.proofs.HeldLemmas.{held-more}
use Rattle.rd_matrix.proofs.held.MemBlocks.push.Goals as goal

pub invariant_of-self-2 : goal.invariant_of-self-2
invariant_of-self-2 c =
    held-more c.self.inside.held.items c.push.new.self.items c.args.held c.self.invariant c.requires.held
    (subst (λ hs. c.args.held.block.start ≡ end_from c.args.held.block.start (blocks_held hs)) (sym c.self.view_is) c.requires.next) c.in_ok-push.ensures.items
