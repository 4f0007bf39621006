use Rattle.std.proofs.Common.{◌+◌, ◌<◌, ◌≤◌, ◌∙◌, All, sym, subst}
use Rattle.std.proofs.lemmas.Result.{IfOk-weaker}
use Rattle.rd_base.proofs.Lists.{all-at}
use Rattle.rd_items.specs.Pieces.{scene_of}
use Rattle.rd_items.specs.Readings.{reading}
use Rattle.rd_items.specs.declared.item.Item.{Item}
use Rattle.rd_matrix.specs.declared.block.Block.{Block}
use Rattle.rd_props.specs.Buffers.{files_of, meaning}
use Rattle.rd_visual.specs.Motion.{view_blocks}
use Rattle.rd_visual.proofs.Counts.{items-fit, start-in}
use Rattle.rd_visual.proofs.Listing.{ranges-same}
use Rattle.rd_visual.proofs.ranges.ranges_of.Goals as goal

pub new-requires : goal.new-requires
new-requires c =
    let v = c.args.view.now in
    let s = meaning v.state.now in
    start-in s v.objects.now (files_of v) (c.blocks_are_tiled.ensures s c.begin-begin.ensures.right) c.args.block.now c.requires

pub order_of_items-requires : goal.order_of_items-requires
order_of_items-requires c =
    let v = c.args.view.now in
    let source = c.buffers_are_sources.ensures (meaning v.state.now) v.objects.now (files_of v) c.begin-begin.ensures.right in
    all-at (λ (b : Block). b.base ≤ 1) (view_blocks v) c.requires.0 c.args.block.now source.blocks.bases c.requires.1

pub in_turn-requires-clause-fits : goal.in_turn-requires-clause-fits
in_turn-requires-clause-fits c =
    let v = c.args.view.now in
    let s = meaning v.state.now in
    let text = c.begin-begin.ensures.right in
    subst (All (λ (x : Item). x.from < x.to → c.args.block.now.start + x.to < 4294967296)) (sym c.in_ok-items.ensures.value)
    (items-fit s v.objects.now (files_of v) (c.blocks_are_tiled.ensures s text) text c.args.block.now c.requires)

pub returns : goal.returns
returns c =
    let v = c.args.view.now in
    IfOk-weaker c.in_turn.result _ _
    (λ ranges h. h ∙ ranges-same (scene_of v) c.args.block.now.start c.args.block.now.base (reading (meaning v.state.now) v.objects.now c.args.block.now.start) c.in_ok-items.items c.in_ok-order.order.turns
    c.in_ok-items.ensures.value c.in_ok-order.ensures.turns)
    c.in_turn.ensures
