use Rattle.std.proofs.Common.{arith}
use Rattle.rd_base.proofs.Lists.{drop-read}
use Rattle.rd_rows.proofs.Fitting.{fitting-stop, fitting-more, fitting-all}
use Rattle.std.proofs.lemmas.List.{drop_all}
use Rattle.rd_rows.proofs.prefix.Prefix.of.Goals as goal

pub invariant_of-result : goal.invariant_of-result
invariant_of-result c =
    let over = fitting-stop _ _ c.width_at-width.result _ _ _ c.element-item.result _ c.loop-element.invariant (omega arith)
    (drop-read c.args.elements.now c.loop-element.element-index c.element-item.result c.loop-element-test.true c.element-item.is) c.width_at-width.ensures.width c.if-columns-width.true in
    (over.columns_are, over.lead)

pub loop-element-preserved : goal.loop-element-preserved
loop-element-preserved c =
    rw c.in_ok-push.ensures.ok
    (fitting-more _ _ c.width_at-width.result _ _ _ c.element-item.result _ c.loop-element.invariant
    (drop-read c.args.elements.now c.loop-element.element-index c.element-item.result c.loop-element-test.true c.element-item.is) c.width_at-width.ensures.width
    (let past = c.if-columns-width.false in omega (arith, past)))

pub invariant_of-result-2 : goal.invariant_of-result-2
invariant_of-result-2 c =
    let over = fitting-all _ _ _ _ _ c.loop-element.invariant (omega arith) (drop_all c.loop-element.element-index c.args.elements.now (let past = c.loop-element-test.false in omega (arith, past))) in
    (over.columns_are, over.lead)
