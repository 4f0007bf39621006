use Rattle.std.proofs.Common.{arith, sym}
use Rattle.rd_visual.proofs.Covered.{item-fits}
use Rattle.rd_visual.proofs.hits.least_at.Goals as goal

pub overflow_add-result : goal.overflow_add-result
overflow_add-result c =
    let below = item-fits c.args.entry.now.start c.args.entry.now.row.shown c.args.column c.in_ok-item.item c.requires (sym c.in_ok-item.ensures) in
    omega (arith, below)
