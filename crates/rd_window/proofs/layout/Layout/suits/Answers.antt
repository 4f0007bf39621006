use Rattle.std.proofs.Common.{ℕ, ◌<◌, ◌≤◌, if◌then◌else◌, sym, ap, ap₂, ◌∙◌, arith}
use Rattle.rd_matrix.specs.Cursors.{cursor_in}
use Rattle.rd_start.specs.Chosen.{places_of}
use Rattle.rd_start.specs.Starts.{is_inside, margin_of}
use Rattle.rd_window.proofs.Ends.{first-shown, last-shown}
use Rattle.rd_window.proofs.Points.{point-hidden, point-shown}
use Rattle.rd_window.proofs.Standing.{above-known, below-known, suits-hidden, suits-shown}
use Rattle.rd_window.specs.Views.{shows_at, starts_at}
use Rattle.rd_window.proofs.layout.Layout.suits.Goals as goal

pub returns-in_default : goal.returns-in_default
returns-in_default c = λ m of is within height stands.
    let l = c.args.self.now in
    let w = c.args.wanted in
    let at = places_of m l.shape w in
    sym (suits-hidden w at (λ low high. point-hidden w.point of.source is at.old l.height within (sym (ap (cursor_in w.point) stands.rows) ∙ (sym c.cursor.ensures ∙ c.in_default.is)) low (omega (arith, high, height))))

pub returns : goal.returns
returns c = λ m of is within height stands.
    let l = c.args.self.now in
    let w = c.args.wanted in
    let at = places_of m l.shape w in
    let row = c.in-Some.row in
    let shown = point-shown w.point of.source is at.old l.height (row, c.in-Some.field-0-1) (sym (ap (cursor_in w.point) stands.rows) ∙ (sym c.cursor.ensures ∙ c.in-Some.is)) in
    let inside = shown.2 in
    let low : at.old < at.count = omega (arith, inside) in
    let some : 1 ≤ l.height = omega (arith, shown.1) in
    let top = c.has_first_row.ensures ∙ (ap (starts_at c.args.ends.begin) stands.rows ∙ first-shown of is at.old l.height low some) in
    let bottom = c.has_last_row.ensures ∙ (ap (shows_at c.args.ends.end) stands.rows ∙ last-shown of is at.old l.height low) in
    c.is_inside.ensures
    ∙ (ap₂ (λ (a b : ℕ). is_inside w.height a b 0 row) c.wanted_beside-above.ensures c.wanted_beside-below.ensures
    ∙ suits-shown w at row (if c.has_first_row.result then 0 else margin_of w) (if c.has_last_row.result then 0 else margin_of w) shown.0 low (above-known w c.has_first_row.result at.old top)
    (below-known w c.has_last_row.result at.count at.old l.height height bottom))
