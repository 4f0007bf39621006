use Rattle.rd_script.proofs.Items.{not-two}
use Rattle.rd_script.proofs.item.pair_of.Goals as goal

pub returns-then-items-ne2 : goal.returns-then-items-ne2
returns-then-items-ne2 g c = not-two (g.A.Form.kind c.args.first.now) (g.B.Form.kind c.args.second.now) c.args.items.now c.if-items-ne2.true
