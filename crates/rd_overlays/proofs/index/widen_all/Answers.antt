use Rattle.std.proofs.Common.{◌-◌, ◌∙◌, arith}
use Rattle.rd_overlays.proofs.Bounding.{wider, widened-step, other-step, widened-bounded}
use Rattle.rd_overlays.proofs.index.widen_all.Goals as goal

pub loop-place-preserved-then-order-place : goal.loop-place-preserved-then-order-place
loop-place-preserved-then-order-place c =
    let now = c.loop-place.bounds in
    let new = c.widen.new.bounds in
    let place = c.loop-place.place in
    let within = c.loop-place.invariant.within in
    record {
      within = omega (arith, within);
      size = c.widen.ensures.size ∙ c.loop-place.invariant.size;
      kept = λ batch b other held at.
          wider now new (place - 1) batch c.args.slot other b c.widen.ensures (λ d at_now. c.loop-place.invariant.kept batch d other held at_now) at;
      holds = widened-step c.args.order.now now new c.args.number c.args.slot place c.widen.ensures c.loop-place.invariant.holds;
    }

pub loop-place-preserved : goal.loop-place-preserved
loop-place-preserved c =
    let within = c.loop-place.invariant.within in
    record {
      within = omega (arith, within);
      size = c.loop-place.invariant.size;
      kept = c.loop-place.invariant.kept;
      holds = other-step c.args.order.now c.loop-place.bounds c.args.number c.args.slot c.loop-place.place c.if-order-place.false c.loop-place.invariant.holds;
    }

pub returns : goal.returns
returns c = λ slots h.
    let done = c.loop-place-test.false in
    widened-bounded slots c.args.order.now c.args.bounds.now c.loop-place.bounds c.args.number c.args.slot c.loop-place.invariant.size
    c.loop-place.invariant.kept (λ k b there at. c.loop-place.invariant.holds k b (omega (arith, done)) there at) h
