-- What a window shows in its rectangle: its glyph rows behind their margins, its border, and its mode line.
use Rattle.std.specs.Prelude.{ℕ, ◌+◌, ◌-◌, nat_lt, Bool, if◌then◌else◌, List, [], ◌∷◌, ◌++◌, length, map, replicate, Option, None, Some}
use Rattle.rd_base.specs.Cells.{single}
use Rattle.rd_base.specs.declared.cell.Cell.{Cell}
use Rattle.rd_base.specs.declared.cell.Glyph.{Glyph}
use Rattle.rd_rows.specs.Rows.{mark}
use Rattle.rd_term.specs.Pictures.{blank_row}
use Rattle.rd_tree.specs.declared.placed.Placed.{Placed}

-- a glyph row: the cells of its margins, line numbers and strings, and those of its text
pub record GlyphRow : Type 0 where
  pub margin : List Cell
  pub text : List Cell

-- what a window shows: its glyph rows from the top, the cell of which a border is made, and the cells of a mode line
pub record PaneValues : Type 0 where
  pub rows : List GlyphRow
  pub border : Cell
  pub mode_line : List Cell

-- the cell of a border: the slot of the display table of the buffer that is shown, or a vertical bar, in the plain face
abbrev pub border_cell : Option Glyph → Cell
border_cell None = mark (single 124 1)
border_cell (Some slot) = mark slot

-- a window has a border where its rectangle does not reach the right edge of the frame, which has so many columns
abbrev pub has_border : ℕ → Placed → Bool
has_border width window = nat_lt (window.rect.x + window.rect.width) width

-- the columns of a window's text: those that its margins and its border leave of its rectangle
abbrev pub body_width : ℕ → Placed → ℕ
body_width width window = window.rect.width - window.margins - (if has_border width window then 1 else 0)

-- the rows of a window's text: those that its mode line leaves
abbrev pub body_height : Placed → ℕ
body_height window = window.rect.height - (if window.mode then 1 else 0)

-- the cells of a glyph row
abbrev pub row_cells : GlyphRow → List Cell
row_cells row = row.margin ++ row.text

-- so many rows of so many columns: the glyph rows from the top, and blank rows below the last
abbrev pub body_rows : ℕ → ℕ → List GlyphRow → List (List Cell)
body_rows columns height rows = map row_cells rows ++ replicate (height - length rows) (blank_row columns)

-- a row beside which the border of a window stands, where it has one
abbrev pub bordered : ℕ → Placed → Cell → List Cell → List Cell
bordered width window border row = if has_border width window then row ++ border ∷ [] else row

-- the row of a mode line, where a window shows one
abbrev pub mode_line_row : Placed → List Cell → List (List Cell)
mode_line_row window cells = if window.mode then cells ∷ [] else []

-- the rows of a window on a frame of so many columns: those of its text, each with the border beside it, and below them the mode
-- line, which has the whole width
abbrev pub window_rows : ℕ → PaneValues → Placed → List (List Cell)
window_rows width pane window =
    map (bordered width window pane.border) (body_rows (window.margins + body_width width window) (body_height window) pane.rows)
    ++ mode_line_row window pane.mode_line
