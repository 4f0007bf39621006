use Rattle.std.proofs.Common.{◌≤◌, ℕ, sym, subst}
use Rattle.rd_props.specs.Buffers.{meaning}
use Rattle.rd_props.specs.declared.state.View.{View}
use Rattle.rd_items.specs.Blocks.{IsBlock}
use Rattle.rd_matrix.specs.Blocks.{IsAmong}
use Rattle.rd_blocks.specs.Sources.{source_of}
use Rattle.rd_blocks.proofs.Bases.{base-low}
use Rattle.rd_blocks.proofs.Listed.{among-block, among-base}
use Rattle.rd_blocks.proofs.blocks.Blocks.stands.Goals as goal

pub returns-clause-block : goal.returns-clause-block
returns-clause-block c =
    let x = c.self.inside.view in
    let s = meaning x.state.now in
    let b = c.args.block.now in
    subst (λ (w : View). IsBlock (meaning w.state.now) b.start b.end) c.self.view_is
    (among-block x.classes.now s (c.blocks_are_listed.ensures s c.begin-begin.ensures.right.ordered) b (subst (λ (w : View). IsAmong (source_of w).blocks b) (sym c.self.view_is) c.requires))

pub returns-clause-base : goal.returns-clause-base
returns-clause-base c =
    let w = c.args.self.now in
    let s = meaning w.state.now in
    let b = c.args.block.now in
    subst (λ (n : ℕ). n ≤ 1) (sym (among-base w.classes.now s b c.requires)) (base-low w.classes.now s b.start)
