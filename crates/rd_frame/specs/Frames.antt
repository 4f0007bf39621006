-- The screen of a frame, put together from its windows and its echo area.
use Rattle.std.specs.Prelude.{ℕ, ◌+◌, List, [], ◌∷◌, ◌++◌, Option, None, Some, unwrap_or}
use Rattle.rd_base.specs.declared.cell.Cell.{Cell}
use Rattle.rd_term.specs.Pictures.{Picture}
use Rattle.rd_tree.specs.Calls.{Configuration, frame_of}
use Rattle.rd_tree.specs.Compositions.{composed}
use Rattle.rd_tree.specs.Windows.{window_at}
use Rattle.rd_tree.specs.declared.placed.Placed.{Placed}
use Rattle.rd_frame.specs.Panes.{PaneValues, window_rows}

-- what a frame shows: its windows, which fill all of its rows but the last; what each of them shows; the cells of the echo area,
-- which is the last row; the number of the selected window, and the row and the column of the cursor in that window's text, from 0,
-- where it has one
pub record FrameValues : Type 0 where
  pub tree : Configuration
  pub panes : Placed → PaneValues
  pub echo : List Cell
  pub selected : ℕ
  pub cursor : Option (ℕ × ℕ)

-- the rows of a window of the frame
abbrev pub rows_of : FrameValues → Placed → List (List Cell)
rows_of f window = window_rows f.tree.width (f.panes window) window

-- the rows of a frame: those of its windows in their places, and below them the echo area
abbrev pub frame_rows : FrameValues → List (List Cell)
frame_rows f = composed (rows_of f) f.tree.windows (frame_of f.tree) ++ f.echo ∷ []

abbrev pub selected_window : FrameValues → Option Placed
selected_window f = window_at f.selected f.tree.windows (frame_of f.tree)

-- a place in a window's text, as a row and a column of the frame: the margins stand left of the text
abbrev pub on_frame : Placed → ℕ × ℕ → ℕ × ℕ
on_frame window place = (window.rect.y + place.0, window.rect.x + window.margins + place.1)

-- the cursor of the frame is that of the selected window, or the first cell of its text where the window has none
abbrev pub frame_cursor : Option Placed → Option (ℕ × ℕ) → ℕ × ℕ
frame_cursor None cursor = (0, 0)
frame_cursor (Some window) cursor = on_frame window (unwrap_or cursor (0, 0))

-- the target screen of the frame
abbrev pub frame_picture : FrameValues → Picture
frame_picture f = record {
  rows = frame_rows f;
  row = (frame_cursor (selected_window f) f.cursor).0;
  column = (frame_cursor (selected_window f) f.cursor).1;
}
