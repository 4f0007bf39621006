use Rattle.std.proofs.Common.{◌-◌, ◌/◌, ◌<◌, ◌⊎◌, inl, inr, length, arith}
use Rattle.rd_overlays.specs.Overlays.{overlay_at}
use Rattle.rd_overlays.proofs.Bounding.{away, whole_order-holds}
use Rattle.rd_overlays.proofs.index.Index.skip_to.Goals.{then-pos-bounds-via-then-pos-bounds, then-pos-bounds-via-else-pos-bounds+then-bounds-pos}
use Rattle.rd_overlays.proofs.index.Index.skip_to.Goals as goal

pub returns-then-pos-bounds-clause-away : goal.returns-then-pos-bounds-clause-away
returns-then-pos-bounds-clause-away c = λ slots k number h low high here.
    let order = c.args.self.now.order in
    let len = c.len.ensures in
    let inside = c.if-len-place.false in
    let some = c.if-place-eq0.false in
    let batch = (c.args.place - 1) / 256 in
    let outside : (c.args.pos < c.at-bounds.result.low) ⊎ (c.at-bounds.result.high < c.args.pos) =
    elim c.then-pos-bounds.branch [
      | then-pos-bounds-via-then-pos-bounds w ↦ inl w.if-pos-bounds.true
      | then-pos-bounds-via-else-pos-bounds+then-bounds-pos w ↦ inr w.if-bounds-pos.true
    ] in
    away c.args.pos c.at-bounds.result (overlay_at slots number)
    (whole_order-holds slots order c.args.self.now.bounds (length slots) batch k number c.at-bounds.result h c.at-bounds.ensures low (omega (arith, high)) (omega (arith, high, len, inside)) here) outside
