use Rattle.std.proofs.Common.{◌≡◌, ◌<◌, ◌≤◌, ◌++◌, ◌∙◌, [], length, get_or, set, take, drop, replicate, List, ℕ, sym, ap, arith}
use Rattle.std.proofs.lemmas.List.{length-replicate}
use Rattle.rd_base.specs.declared.cell.Cell.{Cell}
use Rattle.rd_term.specs.Pictures.{Picture, blank, blank_row, width_of}
use Rattle.rd_update.proofs.Parts.{length-seam, seam}
use Rattle.rd_lineshift.specs.Shifts.{shifted, shifted_rows}
use Rattle.rd_lineshift.proofs.Moving.{shifted-all, shifted-length}
use Rattle.rd_lineshift.proofs.screens.shifted.Goals.{After-row_after}
use Rattle.rd_lineshift.proofs.screens.shifted.Goals as goal

-- the loop's row is one of the screen after the shift, and its cells are these
here : (c : goal.After-row_after) → c.loop-row.row < length (shifted c.args.shift c.args.current.now).rows
here c = omega (arith, shifted-length c.args.shift (blank_row (width_of c.args.current.now.rows)) c.args.current.now.rows c.requires)

cells : (c : goal.After-row_after) → c.row_after.result.now ≡ get_or (shifted c.args.shift c.args.current.now).rows c.loop-row.row []
cells c =
    let free = c.first_blanks-blank.ensures ∙ ap blank_row c.width-width.ensures.value in
    c.row_after.ensures ∙ ap (λ xs. get_or (shifted_rows c.args.shift xs c.args.current.now.rows) c.loop-row.row []) free

pub set_row-requires-clause-width : goal.set_row-requires-clause-width
set_row-requires-clause-width c =
    let current = c.args.current.now in
    let shift = c.args.shift in
    let v = width_of current.rows in
    let at = (goal.at.set_row-requires-clause-width c).After-row_after in
    let wide = shifted-all (λ (r : List Cell). length r ≡ v) shift (blank_row v) current.rows (length-replicate v blank) c.width-width.ensures.screen.size.each in
    ap length (cells at) ∙ wide c.loop-row.row [] (here at) ∙ sym c.loop-row.invariant.width

pub loop-row-preserved : goal.loop-row-preserved
loop-row-preserved c =
    let current = c.args.current.now in
    let row = c.loop-row.row in
    let S = (shifted c.args.shift current).rows in
    let B = replicate (length current.rows) (blank_row (width_of current.rows)) in
    let h = c.loop-row.invariant in
    let at = (goal.at.loop-row-preserved c).After-row_after in
    let there : c.loop-row.row < length (replicate (length current.rows) (blank_row (width_of current.rows))) = omega (arith, length-replicate (length current.rows) (blank_row (width_of current.rows))) in
    record {
      rows =
          ap (λ (p : Picture). p.rows) c.set_row.ensures.screen
          ∙ ap (λ xs. set xs row c.row_after.result.now) h.rows
          ∙ ap (λ x. set (take row S ++ drop row B) row x) (cells at)
          ∙ seam S B row [] (here at) there;
      width = c.set_row.ensures.width ∙ h.width;
    }

pub place-requires-clause-row : goal.place-requires-clause-row
place-requires-clause-row c =
    let current = c.args.current.now in
    let shift = c.args.shift in
    let v = width_of current.rows in
    let row = c.loop-row.row in
    let S = (shifted shift current).rows in
    let B = replicate (length current.rows) (blank_row v) in
    let n = shifted-length shift (blank_row v) current.rows c.requires in
    let same : length (shifted shift current).rows ≡ length (replicate (length current.rows) (blank_row v)) = n ∙ sym (length-replicate (length current.rows) (blank_row v)) in
    let le : c.loop-row.row ≤ length (shifted shift current).rows = omega (arith, n) in
    let long = ap length c.loop-row.invariant.rows ∙ length-seam S B row same le ∙ n in
    omega (arith, long, ap (λ (p : ℕ × ℕ). p.0) c.cursor-row.ensures, c.width-width.ensures.screen.size.row)
