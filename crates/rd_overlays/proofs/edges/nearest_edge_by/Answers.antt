use Rattle.std.proofs.Common.{◌≤◌, ℕ, List, length, sym, ap, ◌∙◌, arith}
use Rattle.std.proofs.lemmas.List.{drop_all}
use Rattle.rd_overlays.specs.Overlays.{nearer, slot_edge}
use Rattle.rd_overlays.specs.Bounds.{whole_order}
use Rattle.rd_overlays.specs.Listings.{edge_in}
use Rattle.rd_overlays.proofs.Nearest.{nearer-none, one_more, skipped}
use Rattle.rd_overlays.proofs.Passing.{whole_order-size}
use Rattle.rd_overlays.proofs.edges.nearest_edge_by.Goals as goal

pub loop-place-preserved-then-place-next : goal.loop-place-preserved-then-place-next
loop-place-preserved-then-place-next c =
    let slots = c.args.slots.now in
    let high = c.skip_edges-next.ensures.high c.if-place-next.true in
    let whole = c.requires.index.size in
    let size = whole_order-size c.args.index.now.order (length slots) whole in
    record {
      within = omega (arith, high, whole);
      nearest = skipped c.args.way c.args.pos slots (whole_order c.args.index.now.order (length slots)) c.loop-place.nearest c.loop-place.place c.skip_edges-next.result
          c.skip_edges-next.ensures.low (omega (arith, high, whole, size)) (λ j k low high at. c.skip_edges-next.ensures.idle slots j k c.requires.index.bounded low high at)
          ∙ c.loop-place.invariant.nearest;
    }

pub loop-place-preserved : goal.loop-place-preserved
loop-place-preserved c =
    let slots = c.args.slots.now in
    let more = c.loop-place-test.true in
    record {
      within = omega (arith, more);
      nearest = one_more c.args.way c.args.pos c.loop-place.place slots (whole_order c.args.index.now.order (length slots)) c.number_at-number.result c.loop-place.nearest c.nearer-nearest.result
          (c.number_at-number.ensures (length slots) more)
          (c.nearer-nearest.ensures ∙ ap (nearer c.args.way c.loop-place.nearest) (c.slot_edge.ensures ∙ ap (slot_edge c.args.way c.args.pos) c.overlay_at.ensures.value))
          ∙ c.loop-place.invariant.nearest;
    }

pub returns : goal.returns
returns c =
    let slots = c.args.slots.now in
    let numbers = whole_order c.args.index.now.order (length slots) in
    let size = whole_order-size c.args.index.now.order (length slots) c.requires.index.size in
    let all : length numbers ≤ c.loop-place.place = omega (arith, size, c.loop-place-test.false) in
    sym (nearer-none c.args.way c.loop-place.nearest)
    ∙ (ap (λ (ks : List ℕ). nearer c.args.way c.loop-place.nearest (edge_in c.args.way c.args.pos slots ks)) (sym (drop_all c.loop-place.place numbers all)) ∙ c.loop-place.invariant.nearest)
