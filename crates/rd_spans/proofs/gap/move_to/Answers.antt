use Rattle.std.proofs.Common.{arith}
use Rattle.rd_spans.proofs.Sides.{moved-swap, gap-moved}
use Rattle.rd_spans.proofs.gap.move_to.Goals as goal

pub returns-else-pos-gap-clause-moved : goal.returns-else-pos-gap-clause-moved
returns-else-pos-gap-clause-moved c =
    let start = rw c.deref.ensures.value at c.size-gap.ensures in
    gap-moved c.args.front.now.items c.args.back.now.items c.shift-else-pos-gap.new.to.items c.shift-else-pos-gap.new.from.items c.args.pos
    (moved-swap c.args.front.now.items c.args.back.now.items c.shift-else-pos-gap.new.to.items c.shift-else-pos-gap.new.from.items c.shift-else-pos-gap.ensures.moved)
    (omega (arith, c.shift-else-pos-gap.ensures.less)) (omega (arith, start, c.shift-else-pos-gap.ensures.more, c.if-pos-gap.false))
