-- Redisplay from nothing: what the rules give for a state, whatever was laid out before.
use Rattle.std.specs.Prelude.{ℕ, Option, None, Some, [], map}
use Rattle.rd_base.specs.Faces.{plain}
use Rattle.rd_ucd.specs.Data.{Data}
use Rattle.rd_frame.specs.Frames.{FrameValues, frame_picture}
use Rattle.rd_frame.specs.Panes.{PaneValues, border_cell}
use Rattle.rd_glyphs.specs.Lines.{plain_cells}
use Rattle.rd_matrix.specs.Cursors.{cursor_in}
use Rattle.rd_state.specs.States.{StateValue}
use Rattle.rd_state.specs.Steps.{settled_window}
use Rattle.rd_state.specs.Windows.{window_of}
use Rattle.rd_state.specs.declared.window.WindowState.{WindowState}
use Rattle.rd_term.specs.Pictures.{Picture}
use Rattle.rd_tree.specs.declared.placed.Placed.{Placed}
use Rattle.rd_window.specs.Views.{WindowView}
use Rattle.rd_layout.specs.Windows.{place_of, view_in}
use Rattle.rd_layout.specs.Panes.{pane_of}

-- what stands in the rectangle of a window that lives; each window of the tree does
abbrev pub pane_by : Data → StateValue → Placed → Option WindowState → PaneValues
pane_by files s place None = record { rows = []; border = border_cell None; mode_line = [] }
pane_by files s place (Some w) = pane_of files s w place (view_in files s w place)

abbrev pub pane_at : Data → StateValue → Placed → PaneValues
pane_at files s place = pane_by files s place (window_of place.number s.windows)

-- the cursor in a view: where the item that covers point begins, if a row in view holds that
abbrev pub cursor_of : WindowView → Option (ℕ × ℕ)
cursor_of v = cursor_in v.point v.rows

abbrev pub cursor_by : Data → StateValue → Option WindowState → Option Placed → Option (ℕ × ℕ)
cursor_by files s (Some w) (Some place) = cursor_of (view_in files s w place)
cursor_by files s _ _ = None

-- the cursor in the window with a number
abbrev pub cursor_at : Data → StateValue → ℕ → Option (ℕ × ℕ)
cursor_at files s number = cursor_by files s (window_of number s.windows) (place_of number s)

-- what the frame shows
abbrev pub frame_in : Data → StateValue → FrameValues
frame_in files s = record {
  tree = s.tree;
  panes = pane_at files s;
  echo = plain_cells files.classes plain s.width s.echo;
  selected = s.selected;
  cursor = cursor_at files s s.selected;
}

-- a window with the start and the point that the rules choose for it, where it has a place
abbrev pub settled_by : Data → StateValue → WindowState → Option Placed → WindowState
settled_by files s w None = w
settled_by files s w (Some place) = let v = view_in files s w place in settled_window v.anchor v.point w

abbrev pub settled_at : Data → StateValue → ℕ × WindowState → ℕ × WindowState
settled_at files s e = (e.0, settled_by files s e.1 (place_of e.0 s))

-- a state whose windows have the starts and points that a redisplay chooses
abbrev pub settled_state : Data → StateValue → StateValue
settled_state files s = record s { windows = map (settled_at files s) s.windows }

-- what a redisplay leaves: the state with its windows settled, and the target screen
pub record Laid : Type 0 where
  pub state : StateValue
  pub picture : Picture

unfoldable pub laid_out : Data → StateValue → Laid
laid_out files s = record { state = settled_state files s; picture = frame_picture (frame_in files s) }
