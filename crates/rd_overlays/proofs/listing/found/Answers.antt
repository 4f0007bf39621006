use Rattle.std.proofs.Common.{◌-◌, ◌++◌, Option, length, sym, ap, ◌∙◌, arith}
use Rattle.std.proofs.lemmas.List.{drop_all}
use Rattle.rd_overlays.specs.declared.overlay.Overlay.{Overlay}
use Rattle.rd_overlays.specs.Overlays.{meets}
use Rattle.rd_overlays.specs.Bounds.{whole_order}
use Rattle.rd_overlays.specs.Listings.{found_in, rank_at}
use Rattle.rd_overlays.proofs.Passing.{whole_order-size}
use Rattle.rd_overlays.proofs.Skipping.{taken, skipped}
use Rattle.rd_overlays.proofs.listing.found.Goals as goal

pub loop-place-init : goal.loop-place-init
loop-place-init c =
    let slots = c.args.slots.now in
    let order = c.args.index.now.order in
    let size = whole_order-size order (length slots) c.requires.index.size in
    record {
      within = omega arith;
      found = c.new-ranks.ensures.items ∙ sym (ap (found_in (meets c.args.meeting c.args.pos) slots) (drop_all (length slots) (whole_order order (length slots)) (omega (arith, size))));
    }

pub loop-place-preserved-then-next-place : goal.loop-place-preserved-then-next-place
loop-place-preserved-then-next-place c =
    let slots = c.args.slots.now in
    let within = c.loop-place.invariant.within in
    let bound = c.skip_to-next.ensures.bound in
    let size = whole_order-size c.args.index.now.order (length slots) c.requires.index.size in
    record {
      within = omega (arith, within, bound);
      found = c.loop-place.invariant.found
          ∙ skipped c.args.meeting c.args.pos slots (whole_order c.args.index.now.order (length slots)) c.skip_to-next.result c.loop-place.place bound (omega (arith, within, size))
          (λ j k low high at. c.skip_to-next.ensures.away slots j k c.requires.index.bounded low high at);
    }

pub loop-place-preserved : goal.loop-place-preserved
loop-place-preserved c =
    let slots = c.args.slots.now in
    let within = c.loop-place.invariant.within in
    let more = c.loop-place-test.true in
    record {
      within = omega (arith, within);
      found = taken c.args.meeting c.args.pos c.loop-place.place (c.loop-place.place - 1) slots (whole_order c.args.index.now.order (length slots)) c.number_at-number.result
          c.loop-place.ranks.items c.take_in.new.ranks.items (omega (arith, more)) (c.number_at-number.ensures (length slots) (omega (arith, within, more))) c.loop-place.invariant.found
          (c.in_ok-take_in.ensures ∙ ap (λ (s : Option Overlay). c.loop-place.ranks.items ++ rank_at (meets c.args.meeting c.args.pos) c.number_at-number.result s) c.overlay_at.ensures.value);
    }
