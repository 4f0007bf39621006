use Rattle.std.proofs.Common.{◌≡◌, ◌+◌, ℕ, None, Some, refl, sym, subst, arith}
use Rattle.std.specs.Prelude.{slice_get}
use Rattle.rd_props.specs.Buffers.{meaning}
use Rattle.rd_props.specs.declared.state.View.{View}
use Rattle.rd_items.specs.Blocks.{IsBlock}
use Rattle.rd_matrix.specs.declared.block.Block.{Block}
use Rattle.rd_blocks.specs.Sources.{source_of}
use Rattle.rd_blocks.proofs.Listed.{starts-behind, next-block, next-none}
use Rattle.rd_blocks.proofs.blocks.Blocks.behind.Goals as goal

pub returns-then-end-start-clause-next : goal.returns-then-end-start-clause-next
returns-then-end-start-clause-next c =
    let x = c.self.inside.view in
    let s = meaning x.state.now in
    let b = c.args.block.now in
    let right = c.end.ensures.right in
    let value = c.end.ensures.value in
    let past = c.if-end-start.true in
    subst (λ (w : View). (k : ℕ) → slice_get (source_of w).blocks k ≡ Some b → None ≡ slice_get (source_of w).blocks (k + 1)) c.self.view_is
    (next-none x.classes.now s (c.blocks_are_listed.ensures s right.ordered) b (omega (arith, value, past)))

-- the block ends before the end of the text, so that another starts there
pub block_from-requires : goal.block_from-requires
block_from-requires c =
    let b = c.args.block.now in
    let block = subst (λ (w : View). IsBlock (meaning w.state.now) b.start b.end) (sym c.self.view_is) c.stands.ensures.block in
    let value = c.end.ensures.value in
    let within = c.if-end-start.false in
    let starts = starts-behind (meaning c.self.inside.view.state.now) b.start b.end block (omega (arith, value, within)) in
    record { accessible = starts.0; start = starts.1 }

pub returns-clause-next : goal.returns-clause-next
returns-clause-next c =
    let x = c.self.inside.view in
    let s = meaning x.state.now in
    let b = c.args.block.now in
    let next : Block = record { start = b.end; end = c.in_ok-end.end; base = c.base_of-base.result } in
    subst (λ (w : View). (k : ℕ) → slice_get (source_of w).blocks k ≡ Some b → Some next ≡ slice_get (source_of w).blocks (k + 1)) c.self.view_is
    (next-block x.classes.now s (c.blocks_are_listed.ensures s c.end.ensures.right.ordered) b next refl c.in_ok-end.ensures c.base_of-base.ensures.base)
