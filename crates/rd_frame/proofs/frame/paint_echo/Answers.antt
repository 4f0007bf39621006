use Rattle.std.proofs.Common.{◌≡◌, ◌-◌, length, List, ap, sym, ◌∙◌, arith}
use Rattle.std.proofs.lemmas.List.Elements.{recursion_from_All}
use Rattle.rd_base.specs.declared.cell.Cell.{Cell}
use Rattle.rd_term.specs.Pictures.{Picture}
use Rattle.rd_frame.proofs.Screens.{echo-painted}
use Rattle.rd_frame.proofs.frame.paint_echo.Goals as goal

pub returns-clause-painted : goal.returns-clause-painted
returns-clause-painted c =
    let screen = c.args.screen.now in
    let cells : List Cell = c.args.cells.now in
    let size = c.width-width.ensures.screen.size in
    let inside = size.row in
    let count = c.height-last.ensures in
    let each = recursion_from_All (λ (row : List Cell). length row ≡ length cells) screen.rows (λ k d in'. size.each k d in' ∙ sym c.requires) in
    c.set_cells.ensures
    ∙ ap (λ (rows : List (List Cell)). let p : Picture = record screen { rows = rows } in p) (echo-painted (c.height-last.result - 1) cells screen.rows (omega arith) each)
