use Rattle.std.proofs.Common.{◌∙◌, sym, arith}
use Rattle.rd_visual.specs.Ways.{along, beside}
use Rattle.rd_visual.proofs.Listing.{along-length, behind-here, behind-on, behind-past}
use Rattle.rd_visual.proofs.range.beside.Goals as goal

pub returns-then-holds : goal.returns-then-holds
returns-then-holds c =
    behind-here c.args.pos c.loop-place.place (along c.args.way c.args.ranges.now) c.on_way.result (beside c.args.way c.args.pos c.args.ranges.now) c.loop-place.auto.place c.on_way.ensures c.loop-place.invariant
    c.on_way-then-holds.result c.on_way-then-holds.ensures (sym c.holds.ensures ∙ c.if-holds.true)

pub loop-place-preserved : goal.loop-place-preserved
loop-place-preserved c =
    behind-on c.args.pos c.loop-place.place (along c.args.way c.args.ranges.now) c.on_way.result (beside c.args.way c.args.pos c.args.ranges.now) c.loop-place.auto.place c.on_way.ensures c.loop-place.invariant
    (sym c.holds.ensures ∙ c.if-holds.false)

pub returns : goal.returns
returns c =
    let size = c.len-place-end.ensures in
    let past = c.loop-place-test.false in
    behind-past c.args.pos c.loop-place.place (along c.args.way c.args.ranges.now) (beside c.args.way c.args.pos c.args.ranges.now) (omega (arith, size, past, along-length c.args.way c.args.ranges.now)) c.loop-place.invariant
