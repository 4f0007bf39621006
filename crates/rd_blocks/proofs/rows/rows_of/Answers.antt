use Rattle.std.proofs.Common.{◌≡◌, ap, ◌∙◌, arith}
use Rattle.std.proofs.lemmas.Result.{IfOk-weaker}
use Rattle.rd_props.specs.Buffers.{meaning}
use Rattle.rd_items.specs.Pieces.{scene_of}
use Rattle.rd_items.specs.Readings.{reading}
use Rattle.rd_matrix.proofs.HeldLemmas.{shown-made}
use Rattle.rd_rows.specs.Copies.{shown_rows, made_rows}
use Rattle.rd_rows.specs.Lines.{rows_left}
use Rattle.rd_rows.specs.Rows.{weight_of}
use Rattle.rd_stack.specs.Walks.{walk_left}
use Rattle.rd_blocks.specs.Rows.{block_rows}
use Rattle.rd_blocks.proofs.Made.{takes-line, left-seen}
use Rattle.rd_blocks.proofs.rows.rows_of.Given as given
use Rattle.rd_blocks.proofs.rows.rows_of.Goals as goal
use Rattle.rd_blocks.proofs.rows.rows_of.Goals.{In_ok-maker}

pub make_all-requires : goal.make_all-requires
make_all-requires g c = takes-line _ c.in_ok-maker.maker _ c.in_ok-maker.ensures.fresh c.in_ok-line.ensures.sound c.in_ok-line.ensures.columns c.in_ok-line.ensures.ends

-- what the maker has to make of the line are the block's rows
left : (g : given.Over) (c : goal.In_ok-maker g)
    → rows_left c.in_ok-maker.maker (walk_left c.in_ok-line.line.few c.in_ok-line.line.frames.items) ≡ block_rows (scene_of c.args.view) c.args.block.now.base c.args.shape (reading (meaning c.args.view.state.now) c.args.view.objects.now c.args.block.now.start)
left g c =
    let view = c.args.view in
    left-seen (scene_of view) c.args.block.now.base c.args.shape (meaning view.state.now) view.objects.now c.args.block.now.start c.in_ok-seen.seen _ _ _ _ _ _ c.in_ok-maker.maker c.in_ok-seen.ensures c.settings.view_is c.in_ok-maker.ensures.fresh
    (c.as_slice.ensures ∙ c.in_ok-first.ensures.value) (c.as_slice-2.ensures ∙ c.in_ok-wrap.ensures.value) c.truncation_mark.ensures.value c.continuation_mark.ensures.value c.in_ok-line.ensures.left

pub returns-clause-rows : goal.returns-clause-rows
returns-clause-rows g c =
    let made = ap made_rows (left g (goal.at.returns-clause-rows g c).In_ok-maker) in
    IfOk-weaker c.make_all.result _ _ (λ rows h. ap shown_rows (h ∙ made) ∙ shown-made _) c.make_all.ensures.rows

pub returns-clause-steps : goal.returns-clause-steps
returns-clause-steps g c =
    let weight = ap weight_of (left g (goal.at.returns-clause-steps g c).In_ok-maker) in
    let bound = c.make_all.ensures.bound in
    omega (arith, weight, bound)
