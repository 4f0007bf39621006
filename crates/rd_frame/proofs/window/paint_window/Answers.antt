use Rattle.std.proofs.Common.{◌≡◌, ℕ, ◌+◌, ◌-◌, ◌≤◌, length, List, map, replicate, refl, ap, sym, ◌∙◌, arith}
use Rattle.std.specs.Prelude.{if◌then◌else◌}
use Rattle.rd_base.specs.declared.cell.Cell.{Cell}
use Rattle.rd_term.specs.Pictures.{Picture, blank_row, width_of, with_cells}
use Rattle.rd_frame.specs.Held.{glyph_rows}
use Rattle.rd_frame.specs.Paints.{laid_from, with_rectangle}
use Rattle.rd_frame.specs.Panes.{PaneValues, body_height, body_width, bordered, row_cells, window_rows}
use Rattle.rd_frame.proofs.Screens.{twice, glyph-count, window-painted}
use Rattle.rd_frame.proofs.window.paint_window.Goals as goal

pub paint_text-requires-clause-few : goal.paint_text-requires-clause-few
paint_text-requires-clause-few c =
    let pane = c.pane.inside in
    let few = c.requires.fits.few in
    omega (arith, glyph-count pane.margins.now pane.matrix.now, ap (λ (p : PaneValues). length p.rows) c.pane.view_is)

pub overflow_cast-len : goal.overflow_cast-len
overflow_cast-len c =
    let pane = c.pane.inside in
    let few = c.requires.fits.few in
    let screen = c.width-width.ensures.screen in
    let tall = screen.tall in
    let within = c.requires.stands.0 in
    let bottom = within.3 in
    let count = c.len.ensures in
    omega (arith, glyph-count pane.margins.now pane.matrix.now, ap (λ (p : PaneValues). length p.rows) c.pane.view_is)

pub paint_blanks-requires-clause-from : goal.paint_blanks-requires-clause-from
paint_blanks-requires-clause-from c =
    let pane = c.pane.inside in
    let few = c.requires.fits.few in
    let count = c.len.ensures in
    omega (arith, glyph-count pane.margins.now pane.matrix.now, ap (λ (p : PaneValues). length p.rows) c.pane.view_is)

pub returns-clause-painted : goal.returns-clause-painted
returns-clause-painted c =
    let old = c.args.screen.now in
    let texts = c.paint_text.new.screen in
    let all = c.paint_blanks.new.screen in
    let window = c.args.window in
    let x = window.rect.x in
    let y = window.rect.y in
    let width : ℕ = width_of old.rows in
    let pane : PaneValues = record { rows = glyph_rows c.pane.inside.margins.now c.pane.inside.matrix.now; border = c.pane.inside.border; mode_line = c.pane.inside.mode_line.now } in
    let from : ℕ = c.len.result in
    let few = c.requires.fits.few in
    let count : from ≡ length pane.rows = c.len.ensures ∙ sym (glyph-count c.pane.inside.margins.now c.pane.inside.matrix.now) in
    let within : from ≤ body_height window = omega (arith, count, ap (λ (p : PaneValues). length p.rows) c.pane.view_is) in
    let blank : ℕ → List (List Cell) = λ n. laid_from (y + from) x (map (bordered n window pane.border) (replicate (body_height window - from) (blank_row (window.margins + body_width n window)))) texts.rows in
    let below : all.rows ≡ blank width = ap (λ (p : Picture). p.rows) c.paint_blanks.ensures.painted ∙ ap blank c.paint_text.ensures.columns in
    let lined : List (List Cell) = if window.mode then with_cells all.rows (y + body_height window) x pane.mode_line else all.rows in
    let whole : lined ≡ with_rectangle window.rect (window_rows width pane window) old.rows
    = window-painted width pane window old.rows texts.rows all.rows from count within (ap (λ (p : Picture). p.rows) c.paint_text.ensures.painted) below in
    let two : all ≡ (let p : Picture = record old { rows = blank (width_of texts.rows) } in p)
    = twice old texts all (laid_from y x (map (bordered width window pane.border) (map row_cells pane.rows)) old.rows) (blank (width_of texts.rows)) (blank (width_of texts.rows)) c.paint_text.ensures.painted c.paint_blanks.ensures.painted refl in
    twice old all c.paint_mode_line.new.screen (blank (width_of texts.rows)) lined (with_rectangle window.rect (window_rows width pane window) old.rows) two c.paint_mode_line.ensures.painted whole
    ∙ ap (λ (p : PaneValues). let s : Picture = record old { rows = with_rectangle window.rect (window_rows width p window) old.rows } in s) c.pane.view_is
