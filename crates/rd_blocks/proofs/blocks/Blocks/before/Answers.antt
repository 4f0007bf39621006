use Rattle.std.proofs.Common.{◌≡◌, ℕ, None, Some, refl, sym, subst, ◌∙◌}
use Rattle.std.specs.Prelude.{slice_get}
use Rattle.rd_props.specs.Buffers.{meaning}
use Rattle.rd_props.specs.declared.state.View.{View}
use Rattle.rd_items.specs.Blocks.{IsBlock}
use Rattle.rd_matrix.specs.Blocks.{block_before}
use Rattle.rd_matrix.specs.declared.block.Block.{Block}
use Rattle.rd_blocks.specs.Sources.{source_of}
use Rattle.rd_blocks.proofs.Listed.{newline-before, prev-block, prev-none}
use Rattle.rd_blocks.proofs.blocks.Blocks.before.Goals as goal

pub returns-then-end-begin-clause-prev : goal.returns-then-end-begin-clause-prev
returns-then-end-begin-clause-prev c =
    let x = c.self.inside.view in
    let s = meaning x.state.now in
    let b = c.args.block.now in
    subst (λ (w : View). (k : ℕ) → slice_get (source_of w).blocks k ≡ Some b → None ≡ block_before (source_of w).blocks k) c.self.view_is
    (prev-none x.classes.now s (c.blocks_are_listed.ensures s c.begin.ensures.right.ordered) b (c.if-end-begin.true ∙ c.begin.ensures.value))

-- the block does not begin the text, so that a newline is shown before it
pub block_before-requires : goal.block_before-requires
block_before-requires c =
    let b = c.args.block.now in
    let block = subst (λ (w : View). IsBlock (meaning w.state.now) b.start b.end) (sym c.self.view_is) c.stands.ensures.block in
    let shown = newline-before (meaning c.self.inside.view.state.now) b.start b.end block (λ h. c.if-end-begin.false (h ∙ sym c.begin.ensures.value)) in
    record { first = shown.0; last = shown.1; newline = shown.2 }

pub returns-clause-prev : goal.returns-clause-prev
returns-clause-prev c =
    let x = c.self.inside.view in
    let s = meaning x.state.now in
    let b = c.args.block.now in
    let before : Block = record { start = c.in_ok-start.start; end = b.start; base = c.base_of-base.result } in
    subst (λ (w : View). (k : ℕ) → slice_get (source_of w).blocks k ≡ Some b → Some before ≡ block_before (source_of w).blocks k) c.self.view_is
    (prev-block x.classes.now s (c.blocks_are_listed.ensures s c.begin.ensures.right.ordered) before b refl c.in_ok-start.ensures c.base_of-base.ensures.base)
