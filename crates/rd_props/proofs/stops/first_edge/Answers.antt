use Rattle.std.proofs.Common.{min, ap, ◌∙◌}
use Rattle.rd_props.proofs.Edges.{first-edge}
use Rattle.rd_props.proofs.stops.first_edge.Goals as goal

pub returns : goal.returns
returns c = first-edge c.args.overlays.now c.args.end c.args.pos c.min.result c.next_edge.result c.requires c.next_edge.ensures (c.min.ensures ∙ ap (min _) c.unwrap_or.ensures)
