use Rattle.std.proofs.Common.{◌-◌, min, drop, unwrap_or, ap, ◌∙◌, arith}
use Rattle.rd_props.specs.Buffers.{values_of}
use Rattle.rd_props.specs.Stops.{IsFirstChange}
use Rattle.rd_props.proofs.Changes.{from-back, one-more}
use Rattle.rd_props.proofs.stops.first_change.Goals as goal

pub loop-i-preserved : goal.loop-i-preserved
loop-i-preserved c =
    let within = c.loop-i.invariant.within in
    let some = c.loop-i-test.true in
    let spans = c.args.spans.now in
    let next = c.next_change.result in
    record {
      within = omega arith;
      first = from-back (λ rest stop. IsFirstChange (values_of rest) c.args.overlays.now c.args.end c.args.pos stop) spans c.loop-i.i (c.loop-i.i - 1)
          (min c.loop-i.stop (unwrap_or next c.loop-i.stop)) c.min-stop.result c.index-spans-i.result (omega arith) within c.index-spans-i.is (c.min-stop.ensures ∙ ap (min _) c.unwrap_or.ensures)
          (one-more c.index-spans-i.result (drop c.loop-i.i spans) c.args.overlays.now c.args.end c.args.pos c.loop-i.stop next c.ranges.end.fits c.loop-i.invariant.first c.next_change.ensures);
    }
