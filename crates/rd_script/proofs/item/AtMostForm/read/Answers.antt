use Rattle.std.proofs.Common.{◌≡◌, IfOk, arith, ap, subst, ◌∙◌}
use Rattle.serde_json.specs.View.{view, items_view}
use Rattle.rd_script.specs.Fields.{each_item}
use Rattle.rd_script.proofs.Items.{list-none, list-long, list-all}
use Rattle.rd_script.proofs.item.AtMostForm.read.Goals as goal

pub returns-in-None : goal.returns-in-None
returns-in-None g c = list-none c.args.self.now.most (g.F.Form.kind c.args.self.now.of) (view c.args.value.now) c.in-None.ensures

pub returns-then-self-len : goal.returns-then-self-len
returns-then-self-len g c = list-long c.args.self.now.most (g.F.Form.kind c.args.self.now.of) (view c.args.value.now) c.in-Some.items.now.items c.in-Some.ensures (omega arith)

pub returns-else-self-len : goal.returns-else-self-len
returns-else-self-len g c =
    let kind = (g.F.Form.kind c.args.self.now.of) in
    subst (λ list. IfOk c.each.result (λ found. found ≡ list))
    (ap (λ xs. each_item kind (items_view xs)) c.as_slice.ensures.value
    ∙ list-all c.args.self.now.most kind (view c.args.value.now) c.in-Some.items.now.items c.in-Some.ensures (omega arith))
    c.each.ensures
