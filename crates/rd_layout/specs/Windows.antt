-- What one window of a state shows, from nothing.
use Rattle.std.specs.Prelude.{ℕ, Option, None, Some, List, [], ◌∷◌, slice_get, unwrap_or}
use Rattle.std.specs.List.{flat_map}
use Rattle.rd_ucd.specs.Data.{Data}
use Rattle.rd_blocks.specs.Sources.{text_source}
use Rattle.rd_frame.specs.Panes.{body_width, body_height}
use Rattle.rd_matrix.specs.Sources.{SourceValues}
use Rattle.rd_rows.specs.Shapes.{ShapeValues}
use Rattle.rd_start.specs.declared.wanted.Wanted.{Wanted}
use Rattle.rd_state.specs.States.{BufferValue, StateValue, new_buffer, seen}
use Rattle.rd_state.specs.Windows.{shown_content, window_of}
use Rattle.rd_state.specs.declared.window.WindowState.{WindowState}
use Rattle.rd_tree.specs.Calls.{frame_of}
use Rattle.rd_tree.specs.Windows.{placed, window_at}
use Rattle.rd_tree.specs.declared.placed.Placed.{Placed}
use Rattle.rd_window.specs.Views.{WindowView, view_of}

-- the windows of the frame in leaf order, each with its place
abbrev pub places : StateValue → List Placed
places s = placed s.tree.windows (frame_of s.tree)

-- the place of the window with a number
abbrev pub place_of : ℕ → StateValue → Option Placed
place_of number s = window_at number s.tree.windows (frame_of s.tree)

-- the buffer that a window shows; a window always shows one that was made
abbrev pub shown_buffer : StateValue → WindowState → BufferValue
shown_buffer s w = unwrap_or (slice_get s.buffers w.buffer) (new_buffer [])

-- how the lines of a window are cut: its rows are as wide as its text
abbrev pub window_shape : StateValue → WindowState → Placed → ShapeValues
window_shape s w place = record { width = body_width s.width place; wrap = w.wrap; hscroll = w.hscroll }

-- what a window wants of its start
abbrev pub wanted_of : StateValue → WindowState → Placed → Wanted
wanted_of s w place = record {
  anchor = w.anchor;
  forced = w.forced;
  pending = w.pending;
  point = w.point;
  height = body_height place;
  margin = s.margin;
  conservatively = s.conservatively;
}

-- the blocks of the buffer that a window shows, and their rows
abbrev pub window_source : Data → StateValue → WindowState → SourceValues
window_source files s w = text_source (seen (shown_content s w)) s.objects files

-- the start, the point and the rows of a window
abbrev pub view_in : Data → StateValue → WindowState → Placed → WindowView
view_in files s w place = view_of (window_source files s w) (window_shape s w place) (wanted_of s w place)

-- what is given of a window that lives
abbrev pub of_window : {A : Type 0} → (Placed → WindowState → A) → Placed → Option WindowState → List A
of_window given place None = []
of_window given place (Some w) = given place w ∷ []

abbrev pub of_place : {A : Type 0} → (Placed → WindowState → A) → StateValue → Placed → List A
of_place given s place = of_window given place (window_of place.number s.windows)

-- what is given of all windows, in leaf order
abbrev pub of_windows : {A : Type 0} → (Placed → WindowState → A) → StateValue → List A
of_windows given s = flat_map (of_place given s) (places s)

-- the views of all windows, in leaf order
abbrev pub views_in : Data → StateValue → List WindowView
views_in files s = of_windows (λ place w. view_in files s w place) s
