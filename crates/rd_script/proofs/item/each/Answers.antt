use Rattle.std.proofs.Common.{◌+◌, sym, ap, ◌∙◌, drop, arith}
use Rattle.serde_json.specs.View.{items_view}
use Rattle.rd_script.specs.Fields.{each_item}
use Rattle.rd_script.proofs.Items.{behind_found, each-more, each-fails}
use Rattle.rd_script.proofs.item.each.Goals as goal

pub loop-item-preserved : goal.loop-item-preserved
loop-item-preserved g c =
    ap (λ l. behind_found l (each_item (g.F.Form.kind c.args.form.now) (items_view (drop (c.loop-item.item-index + 1) c.args.items.now)))) c.in_ok-push-in-Some.ensures.ok
    ∙ each-more (g.F.Form.kind c.args.form.now) c.args.items.now c.loop-item.item-index c.item-item.result c.loop-item.list c.in-Some.found
    (each_item (g.F.Form.kind c.args.form.now) (items_view c.args.items.now)) (omega arith) c.item-item.is (sym c.in-Some.is ∙ c.in_ok-found.ensures) c.loop-item.invariant

pub returns-in-None : goal.returns-in-None
returns-in-None g c =
    each-fails (g.F.Form.kind c.args.form.now) c.args.items.now c.loop-item.item-index c.item-item.result c.loop-item.list
    (each_item (g.F.Form.kind c.args.form.now) (items_view c.args.items.now)) (omega arith) c.item-item.is (sym c.in-None.is ∙ c.in_ok-found.ensures) c.loop-item.invariant
