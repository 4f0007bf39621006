use Rattle.std.proofs.Common.{◌-◌, arith, true, false}
use Rattle.rd_lanes.proofs.walk.last_place.Goals as goal

pub returns-then-passes : goal.returns-then-passes
returns-then-passes g c test told =
    let some = c.loop-place-test.true in
    let bound = c.loop-place.auto.place in
    let within = c.loop-end.invariant.0 in
    (omega arith, told (c.loop-place.place - 1) true (omega arith) c.if-passes.ensures, λ k behind less. told k false less (c.loop-place.invariant k (omega arith) less))

pub returns : goal.returns
returns g c test told k within =
    let stop = c.loop-place-test.false in
    told k false within (c.loop-place.invariant k (omega arith) within)
