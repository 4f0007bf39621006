use Rattle.std.proofs.Common.{◌+◌, ◌*◌, ◌/◌, ◌<◌, ◌≤◌, length, refl, arith}
use Rattle.rd_overlays.specs.Overlays.{overlay_at}
use Rattle.rd_overlays.proofs.Bounding.{whole_order-holds}
use Rattle.rd_overlays.proofs.index.Index.skip_edges.Goals as goal

pub returns-then-has_no_nearer_edge-clause-idle : goal.returns-then-has_no_nearer_edge-clause-idle
returns-then-has_no_nearer_edge-clause-idle c = λ slots k number h low high here.
    let order = c.args.self.now.order in
    let batch = c.args.place / 256 in
    let len = c.len-then-has_no_nearer_edge.ensures in
    let sum = c.saturating_add.ensures in
    let least = c.min.ensures in
    let bottom : batch * 256 ≤ k = omega (arith, low) in
    let top : k < batch * 256 + 256 = omega (arith, high, sum, least) in
    let within : k < length order = omega (arith, high, len, least) in
    c.if-has_no_nearer_edge.ensures refl (overlay_at slots number)
    (whole_order-holds slots order c.args.self.now.bounds (length slots) batch k number c.at.result h c.at.ensures bottom top within here)
