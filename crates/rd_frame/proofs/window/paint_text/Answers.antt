use Rattle.std.proofs.Common.{◌≡◌, ℕ, ◌+◌, ◌<◌, ◌++◌, [], length, List, get_or, map, refl, ap, sym, subst, ◌∙◌, arith}
use Rattle.std.proofs.lemmas.List.{length-map}
use Rattle.rd_base.specs.declared.cell.Cell.{Cell}
use Rattle.rd_term.specs.Pictures.{width_of}
use Rattle.rd_frame.specs.Fits.{FitsRow}
use Rattle.rd_frame.specs.Held.{glyph_rows}
use Rattle.rd_frame.specs.Panes.{GlyphRow, body_width, row_cells}
use Rattle.rd_frame.proofs.Screens.{laid-none, laid-step, laid-whole, glyph-count, glyph-at, row-of-matrix}
use Rattle.rd_frame.proofs.window.paint_text.Goals as goal

pub loop-row-init : goal.loop-row-init
loop-row-init c = laid-none c.args.window c.args.border.now c.args.screen.now c.args.window.rect.y

pub paint_row-requires-clause-wide : goal.paint_row-requires-clause-wide
paint_row-requires-clause-wide c =
    let window = c.args.window in
    let width : ℕ = width_of c.args.screen.now.rows in
    let row : ℕ = c.loop-row.row in
    let margins : List (List Cell) = c.args.margins.now in
    let text : List Cell = c.entry.result.now.row.shown.cells in
    let test = c.loop-row-test.true in
    let end = c.len-row-end.ensures in
    let d : GlyphRow = record { margin = []; text = [] } in
    let fits : FitsRow width window (record { margin = get_or margins row []; text = text })
    = subst (FitsRow width window) (glyph-at margins c.args.matrix.now row c.entry.result.now d c.entry.ensures) (c.requires.sizes row d (omega (arith, glyph-count margins c.args.matrix.now))) in
    let total : length c.cells_at-margin.result.now + length c.cells-text.result.now ≡ window.margins + body_width width window
    = omega (arith, ap length c.cells_at-margin.ensures, fits.margin, ap length c.cells-text.ensures, fits.text) in
    total ∙ ap (λ (n : ℕ). window.margins + body_width n window) (sym c.loop-row.invariant.columns)

pub loop-row-preserved : goal.loop-row-preserved
loop-row-preserved c =
    let window = c.args.window in
    let row : ℕ = c.loop-row.row in
    let margins : List (List Cell) = c.args.margins.now in
    let glyphs = glyph_rows margins c.args.matrix.now in
    let margin : List Cell = c.cells_at-margin.result.now in
    let text : List Cell = c.cells-text.result.now in
    let test = c.loop-row-test.true in
    let end = c.len-row-end.ensures in
    let here : get_or (map row_cells glyphs) row [] ≡ margin ++ text
    = row-of-matrix margins c.args.matrix.now row c.entry.result.now (omega arith) c.entry.ensures
    ∙ (ap (λ (xs : List Cell). get_or margins row [] ++ xs) (sym c.cells-text.ensures) ∙ ap (λ (xs : List Cell). xs ++ text) (sym c.cells_at-margin.ensures)) in
    let inside : row < length (map row_cells glyphs) = omega (arith, length-map glyphs row_cells, glyph-count margins c.args.matrix.now) in
    laid-step window c.args.border.now c.args.screen.now c.loop-row.screen c.paint_row.new.screen window.rect.y (window.rect.y + row) row (map row_cells glyphs) (margin ++ text)
    inside refl here c.loop-row.invariant c.paint_row.ensures.painted c.paint_row.ensures.columns c.paint_row.ensures.rows

pub returns-clause-painted : goal.returns-clause-painted
returns-clause-painted c =
    let window = c.args.window in
    let glyphs = glyph_rows c.args.margins.now c.args.matrix.now in
    let over = c.loop-row-test.false in
    let end = c.len-row-end.ensures in
    let ended : length (map row_cells glyphs) ≡ length c.args.matrix.now = length-map glyphs row_cells ∙ glyph-count c.args.margins.now c.args.matrix.now in
    laid-whole window c.args.border.now c.args.screen.now c.loop-row.screen window.rect.y c.loop-row.row (map row_cells glyphs) (omega arith) c.loop-row.invariant
