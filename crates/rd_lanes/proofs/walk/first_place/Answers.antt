use Rattle.std.proofs.Common.{arith, true, false}
use Rattle.rd_lanes.proofs.walk.first_place.Goals as goal

pub returns-then-passes : goal.returns-then-passes
returns-then-passes g c test told =
    let within = c.loop-place-test.true in
    (within, told c.loop-place.place true within c.if-passes.ensures, λ k less. told k false (omega arith) (c.loop-place.invariant k less))

pub returns : goal.returns
returns g c test told k within =
    let stop = c.loop-place-test.false in
    told k false within (c.loop-place.invariant k (omega arith))
