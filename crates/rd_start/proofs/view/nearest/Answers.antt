use Rattle.std.proofs.Common.{◌+◌, ◌<◌, Some, subst, sym, ap, ◌∙◌, arith}
use Rattle.std.specs.Option.{option_map}
use Rattle.rd_matrix.specs.Sources.{SourceValues}
use Rattle.rd_start.specs.Chosen.{places_of}
use Rattle.rd_start.specs.Starts.{both_at, suits}
use Rattle.rd_start.specs.Strips.{Finds, ShowsPoint, first_row}
use Rattle.rd_start.proofs.Sides.{point-told}
use Rattle.rd_start.proofs.Suits.{lost-nearest, nearest-here, nearest-later}
use Rattle.rd_start.proofs.view.nearest.Given as given
use Rattle.rd_start.proofs.view.nearest.Goals as goal
use Rattle.rd_start.proofs.view.nearest.Goals.{In_ok-found}

pub returns-in_default-clause-value : goal.returns-in_default-clause-value
returns-in_default-clause-value g c =
    sym (lost-nearest (g.B.BlockSource.meaning c.args.source.now) c.args.window.now.strip c.args.window.now.wanted c.requires.moves.laid.strip c.requires.moves.laid.of (sym c.point_row.ensures ∙ c.in_default.is) c.requires.above c.requires.below)

pub suiting_at-requires-clause-shows : goal.suiting_at-requires-clause-shows
suiting_at-requires-clause-shows g c =
    let m = g.B.BlockSource.meaning c.args.source.now in
    let win = c.args.window.now in
    let place = point-told m win.strip (Some c.in-Some.row) c.requires.moves.laid.strip (sym c.point_row.ensures ∙ c.in-Some.is) in
    subst (λ (x : SourceValues). ShowsPoint x win c.in-Some.row) (sym c.loop-step.invariant.source)
    (record { laid = c.requires.moves.laid; inside = place.0; point = place.1 })

-- what the search at a distance answered, as rows of the source
told : (g : given.Over) (c : In_ok-found g)
    → let m = g.B.BlockSource.meaning c.args.source.now in let win = c.args.window.now in
    Finds m win c.in_ok-found.found (both_at (first_row m win.strip + win.strip.home) (c.loop-step.step + 1))
told g c =
    let win = c.args.window.now in
    subst (λ (x : SourceValues). Finds x win c.in_ok-found.found (both_at (first_row x win.strip + win.strip.home) (c.loop-step.step + 1))) c.loop-step.invariant.source c.in_ok-found.ensures.value

pub returns-in-Some-found-clause-value : goal.returns-in-Some-found-clause-value
returns-in-Some-found-clause-value g c =
    let m = g.B.BlockSource.meaning c.args.source.now in
    let s = c.args.window.now.strip in
    let w = c.args.window.now.wanted in
    let step = c.loop-step.step in
    let low : step < w.conservatively = omega arith in
    nearest-here (suits w (places_of m s.sweep.shape w)) (first_row m s + s.home) step w.conservatively (first_row m s + c.in-Some-found.start) low c.loop-step.invariant.none
    (sym (ap (option_map (λ n. first_row m s + n)) c.in-Some-found.is) ∙ told g (goal.at.returns-in-Some-found-clause-value g c).In_ok-found)

pub loop-step-preserved : goal.loop-step-preserved
loop-step-preserved g c =
    let m = g.B.BlockSource.meaning c.args.source.now in
    let s = c.args.window.now.strip in
    let w = c.args.window.now.wanted in
    let inv = c.loop-step.invariant in
    record {
      source = c.suiting_at.ensures.stays ∙ inv.source;
      none = nearest-later (suits w (places_of m s.sweep.shape w)) (first_row m s + s.home) c.loop-step.step inv.none
          (sym (ap (option_map (λ n. first_row m s + n)) c.in_default-found.is) ∙ told g (goal.at.loop-step-preserved g c).In_ok-found);
    }
