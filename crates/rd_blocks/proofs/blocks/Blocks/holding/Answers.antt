use Rattle.std.proofs.Common.{sym, subst}
use Rattle.rd_props.specs.Buffers.{meaning}
use Rattle.rd_props.specs.declared.state.View.{View}
use Rattle.rd_matrix.specs.Blocks.{IsWithin, HoldsPosition}
use Rattle.rd_matrix.specs.declared.block.Block.{Block}
use Rattle.rd_blocks.specs.Sources.{source_of}
use Rattle.rd_blocks.proofs.Listed.{within-accessible, holds-position}
use Rattle.rd_blocks.proofs.blocks.Blocks.holding.Goals as goal

pub block_at-requires : goal.block_at-requires
block_at-requires c =
    let x = c.self.inside.view in
    let s = meaning x.state.now in
    let order = c.begin-begin.ensures.right.ordered in
    within-accessible x.classes.now s (c.blocks_are_listed.ensures s order) order c.args.pos
    (subst (λ (w : View). IsWithin c.args.pos (source_of w).blocks) (sym c.self.view_is) c.requires)

pub returns-clause-found : goal.returns-clause-found
returns-clause-found c =
    let x = c.self.inside.view in
    let s = meaning x.state.now in
    let found = c.in_ok-found.found in
    let block : Block = record { start = found.0; end = found.1; base = c.base_of-base.result } in
    subst (λ (w : View). HoldsPosition c.args.pos (source_of w).blocks block) c.self.view_is
    (holds-position x.classes.now s (c.blocks_are_listed.ensures s c.begin-begin.ensures.right.ordered) c.args.pos block c.in_ok-found.ensures c.base_of-base.ensures.base)
