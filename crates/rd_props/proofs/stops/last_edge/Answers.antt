use Rattle.std.proofs.Common.{max, ap, ◌∙◌}
use Rattle.rd_props.proofs.Edges.{last-edge}
use Rattle.rd_props.proofs.stops.last_edge.Goals as goal

pub returns : goal.returns
returns c = last-edge c.args.overlays.now c.args.begin c.args.pos c.max.result c.last_edge.result c.requires c.last_edge.ensures (c.max.ensures ∙ ap (max _) c.unwrap_or.ensures)
