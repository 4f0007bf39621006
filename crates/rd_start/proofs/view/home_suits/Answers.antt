use Rattle.std.proofs.Common.{Some, sym, ◌∙◌}
use Rattle.rd_start.proofs.Sides.{point-told}
use Rattle.rd_start.proofs.Suits.{lost-suits}
use Rattle.rd_start.proofs.view.home_suits.Goals as goal

pub suits-requires-clause-shows : goal.suits-requires-clause-shows
suits-requires-clause-shows g c =
    let laid = c.requires.laid in
    let place = point-told (g.B.BlockSource.meaning c.args.source.now) c.args.window.now.strip (Some c.in-Some.row) laid.strip (sym c.point_row.ensures ∙ c.in-Some.is) in
    record { laid = laid; inside = place.0; point = place.1 }

pub returns-in-None-clause-value : goal.returns-in-None-clause-value
returns-in-None-clause-value g c =
    let laid = c.requires.laid in
    let win = c.args.window.now in
    sym (lost-suits (g.B.BlockSource.meaning c.args.source.now) win.strip win.wanted win.strip.home laid.strip laid.of (sym c.point_row.ensures ∙ c.in-None.is) c.requires.reached)
