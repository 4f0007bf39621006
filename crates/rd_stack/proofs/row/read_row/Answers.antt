use Rattle.std.proofs.Common.{refl, sym, ◌∙◌}
use Rattle.rd_items.specs.Pieces.{scene_of}
use Rattle.rd_stack.proofs.Rows.{row-ended, row-goes}
use Rattle.rd_stack.proofs.row.read_row.Goals as goal

pub returns-then-ends_row-clause-value : goal.returns-then-ends_row-clause-value
returns-then-ends_row-clause-value c = λ base.
    row-ended (scene_of c.args.view.now) base c.args.replaced c.args.text.now c.args.under c.loop-i.i c.len-i-end.result
    c.loop-i.parts c.loop-i.before c.place_of-place.result _ c.len-i-end.ensures c.loop-i-test.true c.place_of-place.ensures
    (c.loop-i.invariant base) (sym c.ends_row.ensures ∙ c.if-ends_row.true)

pub loop-i-preserved : goal.loop-i-preserved
loop-i-preserved c = λ base.
    row-goes (scene_of c.args.view.now) base c.args.replaced c.args.text.now c.args.under c.loop-i.i c.len-i-end.result
    c.loop-i.parts c.loop-i.before c.place_of-place.result _ c.len-i-end.ensures c.loop-i-test.true c.place_of-place.ensures
    (c.loop-i.invariant base) c.put_place.new.parts c.place_of-place.result.spec refl (c.in_ok-put_place.ensures base)
