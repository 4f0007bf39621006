use Rattle.std.proofs.Common.{◌-◌, max, drop, arith}
use Rattle.rd_props.specs.Buffers.{values_of}
use Rattle.rd_props.specs.Stops.{IsLastChange}
use Rattle.rd_props.proofs.Changes.{from-back, one-same}
use Rattle.rd_props.proofs.stops.last_change.Goals as goal

pub loop-i-preserved : goal.loop-i-preserved
loop-i-preserved c =
    let within = c.loop-i.invariant.within in
    let some = c.loop-i-test.true in
    let spans = c.args.spans.now in
    let first = c.first_alike.result in
    record {
      within = omega arith;
      last = from-back (λ rest stop. IsLastChange (values_of rest) c.args.overlays.now c.args.begin c.args.pos stop) spans c.loop-i.i (c.loop-i.i - 1)
          (max c.loop-i.stop first) c.max-stop.result c.index-spans-i.result (omega arith) within c.index-spans-i.is c.max-stop.ensures
          (one-same c.index-spans-i.result (drop c.loop-i.i spans) c.args.overlays.now c.args.begin c.args.pos c.loop-i.stop first c.loop-i.invariant.last c.first_alike.ensures);
    }
