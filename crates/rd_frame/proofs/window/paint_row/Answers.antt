use Rattle.std.proofs.Common.{rules, ◌≡◌, ℕ, ◌+◌, ◌-◌, ◌≤◌, ◌++◌, [], ◌∷◌, true, length, List, length-append, refl, ap, ◌∙◌, arith}
use Rattle.std.specs.Prelude.{if◌then◌else◌}
use Rattle.rd_base.specs.Cells.{row_at}
use Rattle.rd_base.specs.declared.cell.Cell.{Cell}
use Rattle.rd_term.specs.Pictures.{Picture, width_of, with_cells}
use Rattle.rd_frame.specs.Panes.{body_width, bordered, has_border}
use Rattle.rd_frame.proofs.Filling.{columns-shared}
use Rattle.rd_frame.proofs.Painting.{cells-behind}
use Rattle.rd_frame.proofs.Screens.{twice, cells-width, border-beside, border-place}
use Rattle.rd_frame.proofs.window.paint_row.Goals as goal

pub returns : goal.returns
returns c =
    let old = c.args.screen.now in
    let front = c.set_cells.new.self in
    let mid = c.set_cells-2.new.self in
    let window = c.args.window in
    let stands = c.requires.stands in
    let row : ℕ = window.rect.y + c.args.row in
    let column : ℕ = window.rect.x in
    let at : ℕ = window.rect.x + window.rect.width - 1 in
    let width : ℕ = width_of old.rows in
    let border : Cell = c.args.border.now in
    let margin : List Cell = c.args.margin.now in
    let text : List Cell = c.args.text.now in
    let cells : List Cell = margin ++ text in
    let below = c.requires.row in
    let screen = c.width-width.ensures.screen in
    let within = stands.0 in
    let bottom = within.3 in
    let right = within.1 in
    let last = screen.size.row in
    let wide : length (row_at old.rows row) ≡ width = screen.size.each row [] (omega arith) in
    let count : length cells ≡ window.margins + body_width width window = length-append margin text ∙ c.requires.wide in
    let place : has_border width window ≡ true → at ≡ column + length cells
    = λ is. border-place (has_border width window) column window.rect.width (length cells) (omega (arith, count, columns-shared width window stands.1)) is in
    let room : column + length cells ≤ width = omega (arith, count, columns-shared width window stands.1) in
    let painted : mid ≡ (let p : Picture = record old { rows = with_cells old.rows row column cells } in p)
    = twice old front mid (with_cells old.rows row column margin) (with_cells front.rows row (column + length margin) text) (with_cells old.rows row column cells) c.set_cells.ensures c.set_cells-2.ensures
    (ap (λ (p : Picture). with_cells p.rows row (column + length margin) text) c.set_cells.ensures
    ∙ cells-behind old.rows row column (column + length margin) margin text (omega arith) refl) in
    let same : width_of mid.rows ≡ width = ap (λ (p : Picture). width_of p.rows) painted ∙ cells-width old.rows row column cells room in
    let both : (if has_border (width_of mid.rows) window then with_cells mid.rows row at (border ∷ []) else mid.rows) ≡ with_cells old.rows row column (bordered width window border cells)
    = ap (λ (n : ℕ). if has_border n window then with_cells mid.rows row at (border ∷ []) else mid.rows) same
    ∙ (ap (λ (p : Picture). if has_border width window then with_cells p.rows row at (border ∷ []) else p.rows) painted
    ∙ border-beside (has_border width window) old.rows row column at cells border (omega arith) place) in
    record {
      painted = twice old mid c.paint_border.new.screen (with_cells old.rows row column cells) (if has_border (width_of mid.rows) window then with_cells mid.rows row at (border ∷ []) else mid.rows) (with_cells old.rows row column (bordered width window border cells))
          painted c.paint_border.ensures.painted both;
      columns = c.paint_border.ensures.columns ∙ same;
      rows = search rules;
    }
