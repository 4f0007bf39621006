use Rattle.std.proofs.Common.{◌<◌, length, arith}
use Rattle.rd_views.specs.Layings.{nothing_chosen}
use Rattle.rd_views.proofs.Settled.{first-settles, step-settled}
use Rattle.rd_views.proofs.adopting.settle.Goals as goal

pub settle-requires-clause-live : goal.settle-requires-clause-live
settle-requires-clause-live c =
    let there = c.loop-i-test.true in
    let less : c.loop-i.i < length c.args.layouts.now = omega (arith, c.requires.same, there) in
    (first-settles c.loop-i.state c.args.windows.now c.args.layouts.now c.loop-i.i nothing_chosen c.index-layouts-i.result (omega (arith, there)) less c.loop-i.invariant.can).0

pub loop-i-preserved : goal.loop-i-preserved
loop-i-preserved c =
    let there = c.loop-i-test.true in
    let less : c.loop-i.i < length c.args.layouts.now = omega (arith, c.requires.same, there) in
    let step = step-settled c.loop-i.state c.settle.new.self _ c.args.windows.now c.args.layouts.now c.loop-i.i _ _ (omega (arith, there)) less c.loop-i.invariant.can c.settle.ensures
    c.loop-i.invariant.settled in
    record { can = step.0; settled = step.1 }
