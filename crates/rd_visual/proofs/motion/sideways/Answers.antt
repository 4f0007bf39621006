use Rattle.std.proofs.Common.{inl, ◌∙◌, sym, subst}
use Rattle.std.proofs.lemmas.Result.{IfOk-weaker}
use Rattle.rd_matrix.specs.Blocks.{HoldsPosition, IsWithin, StandFrom, first_start}
use Rattle.rd_matrix.specs.Sources.{SourceValues}
use Rattle.rd_props.specs.Buffers.{files_of, meaning}
use Rattle.rd_visual.specs.Motion.{view_blocks}
use Rattle.rd_visual.proofs.Steps.{base-holds, side-step}
use Rattle.rd_visual.proofs.motion.sideways.Goals as goal

pub block_of-requires : goal.block_of-requires
block_of-requires c =
    let v = c.args.view.now in
    inl (subst (λ (m : SourceValues). IsWithin c.args.pos m.blocks) (sym c.new-source.ensures)
    (c.accessible_positions_lie_in_blocks.ensures (meaning v.state.now) v.objects.now (files_of v) c.args.pos c.requires))

pub returns : goal.returns
returns c =
    let v = c.args.view.now in
    let holds = subst (λ (m : SourceValues). HoldsPosition c.args.pos m.blocks c.in_ok-block.block) c.new-source.ensures c.in_ok-block.ensures.found in
    let stand = subst (λ (m : SourceValues). StandFrom (first_start m.blocks) m.blocks) c.new-source.ensures c.block_of.ensures.source.blocks.stand in
    let base = base-holds (view_blocks v) c.args.pos c.in_ok-block.block stand holds in
    IfOk-weaker c.step.result _ _
    (λ found h. h ∙ side-step c.args.way c.in_block.result (meaning v.state.now) v.objects.now (files_of v) c.args.pos c.in_ok-block.block.base c.in_block.ensures base)
    c.step.ensures
