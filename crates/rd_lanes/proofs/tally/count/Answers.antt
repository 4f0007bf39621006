use Rattle.std.proofs.Common.{eqb, arith}
use Rattle.rd_lanes.proofs.Masks.{count_more, group_count}
use Rattle.rd_lanes.proofs.tally.count.Goals as goal

pub loop-at-preserved : goal.loop-at-preserved
loop-at-preserved c =
    let room = c.loop-at-test.true in
    let within = c.loop-at.invariant.0 in
    let so_far = c.loop-at.invariant.1 in
    let few = group_count (λ y. eqb y c.args.x) c.args.list.now c.loop-at.at c.equal.result (omega arith) c.equal.ensures in
    (omega arith, omega arith, count_more (λ y. eqb y c.args.x) c.args.list.now c.loop-at.at c.loop-at.count c.equal.result c.equal.ensures c.loop-at.invariant.2)
