-- When what windows show fills their rectangles, and when it can be shown on a terminal.
use Rattle.std.specs.Prelude.{◌≡◌, ℕ, ◌-◌, ◌<◌, ◌≤◌, true, List, [], ◌∷◌, length, All, IfSome, is_some}
use Rattle.rd_base.specs.Cells.{IsColoured}
use Rattle.rd_base.specs.Glyphs.{IsRowAfter}
use Rattle.rd_base.specs.declared.cell.Cell.{Cell}
use Rattle.rd_term.specs.Pictures.{width_of}
use Rattle.rd_tree.specs.Calls.{frame, frame_of}
use Rattle.rd_tree.specs.Places.{StandsIn}
use Rattle.rd_tree.specs.Windows.{HasRoom, placed}
use Rattle.rd_tree.specs.declared.placed.Placed.{Placed}
use Rattle.rd_frame.specs.Panes.{GlyphRow, PaneValues, body_width, body_height}
use Rattle.rd_frame.specs.Frames.{FrameValues, selected_window}

-- a glyph row has as many columns of margins and of text as a window on a frame of so many columns
pub record FitsRow (width : ℕ) (window : Placed) (row : GlyphRow) : Type 0 where
  pub margin : length row.margin ≡ window.margins
  pub text : length row.text ≡ body_width width window

-- what a window shows has the sizes of its rectangle: at most as many glyph rows as it has rows of text, and a mode line of all of
-- its columns where it shows one
pub record FitsWindow (width : ℕ) (pane : PaneValues) (window : Placed) : Type 0 where
  pub few : length pane.rows ≤ body_height window
  pub rows : All (FitsRow width window) pane.rows
  pub mode_line : window.mode ≡ true → length pane.mode_line ≡ window.rect.width

-- a place in a window's text
pub record IsInBody (width : ℕ) (window : Placed) (place : ℕ × ℕ) : Type 0 where
  pub row : place.0 < body_height window
  pub column : place.1 < body_width width window

-- a window stands on a screen above its last row, the echo area, and has the columns and rows that it needs
abbrev pub StandsOn : Placed → List (List Cell) → Type 0
StandsOn window rows = StandsIn window (frame (width_of rows) (length rows - 1))

-- the windows of a frame have room, what each shows has the sizes of its rectangle, the echo area is as wide as the frame, and the
-- selected window is one of the frame's, with its cursor in its text
pub record FitsFrame (f : FrameValues) : Type 0 where
  pub room : HasRoom f.tree.windows (frame_of f.tree)
  pub windows : All (λ window. FitsWindow f.tree.width (f.panes window) window) (placed f.tree.windows (frame_of f.tree))
  pub echo : length f.echo ≡ f.tree.width
  pub selected : is_some (selected_window f) ≡ true
  pub cursor : IfSome (selected_window f) (λ window. IfSome f.cursor (IsInBody f.tree.width window))

-- what holds of each list of cells that a window shows
pub record EachPart (P : List Cell → Type 0) (pane : PaneValues) (window : Placed) : Type 0 where
  pub margins : All (λ row. P row.margin) pane.rows
  pub texts : All (λ row. P row.text) pane.rows
  pub border : P (pane.border ∷ [])
  pub mode_line : window.mode ≡ true → P pane.mode_line

-- what holds of each list of cells that a frame shows
pub record EachPartOf (P : List Cell → Type 0) (f : FrameValues) : Type 0 where
  pub windows : All (λ window. EachPart P (f.panes window) window) (placed f.tree.windows (frame_of f.tree))
  pub echo : P f.echo

-- in each list each glyph stands whole
abbrev pub IsWholeFrame : FrameValues → Type 0
IsWholeFrame f = EachPartOf (IsRowAfter 0) f

-- each colour is in its range
abbrev pub IsColouredFrame : FrameValues → Type 0
IsColouredFrame f = EachPartOf (All IsColoured) f
