-- Windows of a frame that are painted one after the other.
use Rattle.std.specs.Prelude.{◌≡◌, ℕ, ◌+◌, List, drop}
use Rattle.rd_base.specs.declared.cell.Cell.{Cell}
use Rattle.rd_term.specs.Pictures.{width_of}
use Rattle.rd_tree.specs.Calls.{frame_of}
use Rattle.rd_tree.specs.Compositions.{HasSize}
use Rattle.rd_tree.specs.Windows.{placed}
use Rattle.rd_tree.specs.declared.placed.Placed.{Placed}
use Rattle.rd_frame.specs.Fits.{FitsWindow, StandsOn}
use Rattle.rd_frame.specs.Frames.{FrameValues, rows_of}
use Rattle.rd_frame.specs.Paints.{painted, with_rectangle}

-- the rows of a screen with a window of a frame painted over them
abbrev pub with_window : FrameValues → Placed → List (List Cell) → List (List Cell)
with_window f window rows = with_rectangle window.rect (rows_of f window) rows

-- the rows of a screen with those windows of a frame painted over them that stand at a place of their order or behind it
abbrev pub painted_from : FrameValues → ℕ → List (List Cell) → List (List Cell)
painted_from f i rows = painted (rows_of f) (drop i (placed f.tree.windows (frame_of f.tree))) rows

-- the window at a place of the order can be painted over a screen of these rows, which then is one of the same size, where the
-- windows behind it are still to be painted
pub record IsPaintedNext (f : FrameValues) (i : ℕ) (window : Placed) (rows : List (List Cell)) : Type 0 where
  pub stands : StandsOn window rows
  pub fits : FitsWindow (width_of rows) (f.panes window) window
  pub size : HasSize f.tree.width (f.tree.height + 1) (with_window f window rows)
  pub rest : painted_from f i rows ≡ painted_from f (i + 1) (with_window f window rows)
