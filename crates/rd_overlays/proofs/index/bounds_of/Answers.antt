use Rattle.std.proofs.Common.{get_or, subst, arith, Option}
use Rattle.std.proofs.lemmas.Option.{slice_get-get_or}
use Rattle.rd_overlays.specs.declared.overlay.Overlay.{Overlay}
use Rattle.rd_overlays.specs.Bounds.{IsWidened}
use Rattle.rd_overlays.proofs.Bounding.{one-bounded, all-bounded}
use Rattle.rd_overlays.proofs.index.bounds_of.Goals as goal

pub loop-place-preserved : goal.loop-place-preserved
loop-place-preserved c =
    let order = c.args.order.now in
    let slots = c.args.slots.now in
    let place = c.loop-place.place in
    let more = c.loop-place-test.true in
    let P : Option Overlay → Type 0 = λ s. IsWidened c.make_room.new.bounds c.widen.new.bounds place s in
    record {
      within = omega (arith, more);
      bounded = one-bounded slots order c.make_room.new.bounds c.widen.new.bounds place (get_or order place 0) (slice_get-get_or order place 0 more)
          c.in_ok-make_room.ensures.room (c.in_ok-make_room.ensures.kept slots order c.loop-place.invariant.bounded)
          (subst P c.overlay_at.ensures.value c.widen.ensures);
    }

pub returns : goal.returns
returns c = all-bounded c.loop-place.place c.args.slots.now c.args.order.now c.loop-place.bounds c.loop-place-test.false c.loop-place.invariant.bounded
