use Rattle.std.proofs.Common.{List, Option, length, ap, ◌∙◌}
use Rattle.rd_overlays.specs.declared.overlay.Overlay.{Overlay}
use Rattle.rd_overlays.specs.Bounds.{whole_order}
use Rattle.rd_overlays.specs.Listings.{edge_in}
use Rattle.rd_overlays.proofs.Passing.{edge-of_all}
use Rattle.rd_overlays.proofs.edges.nearest_edge.Goals as goal

pub returns : goal.returns
returns c =
    let order = c.index.result.now.order in
    c.nearest_edge_by.ensures
    ∙ (ap (λ (slots : List (Option Overlay)). edge_in c.args.way c.args.pos slots (whole_order order (length slots))) c.as_slice.ensures
    ∙ edge-of_all c.args.way c.args.pos c.args.store.now order c.index.ensures.size c.index.ensures.whole)
