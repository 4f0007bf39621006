-- What the windows of a frame show, as it is handed on to be painted.
use Rattle.std.specs.Prelude.{◌≡◌, ℕ, Some, List, [], All, slice_get}
use Rattle.rd_ucd.specs.Data.{Data}
use Rattle.rd_ucd.specs.declared.spans.Span.{Span}
use Rattle.rd_frame.specs.Panes.{PaneValues}
use Rattle.rd_matrix.specs.Entries.{EntryMeaning}
use Rattle.rd_objects.specs.Things.{ObjectLists}
use Rattle.rd_state.specs.States.{BufferValue, StateValue}
use Rattle.rd_state.specs.Windows.{window_of}
use Rattle.rd_state.specs.declared.window.WindowState.{WindowState}
use Rattle.rd_text.specs.Texts.{IsAccessible, TextValue}
use Rattle.rd_tree.specs.declared.placed.Placed.{Placed}
use Rattle.rd_window.specs.Views.{WindowView}
use Rattle.rd_layout.specs.Panes.{line_facts, pane_with}
use Rattle.rd_layout.specs.Windows.{place_of, places, views_in}

-- by data files with these classes the windows of a state show this, in leaf order
pub record AreShown (files : Data) (classes : List Span) (s : StateValue) (views : List WindowView) : Type 0 where
  pub known : files.classes ≡ classes
  pub shown : views ≡ views_in files s

-- data files of which nothing but the classes counts
abbrev pub of_classes : List Span → Data
of_classes classes = record { classes = classes; mirrors = []; brackets = [] }

-- what is painted of a buffer: all but its text properties, which the rows of its windows show
abbrev pub painted_of : BufferValue → BufferValue
painted_of b = record b { content = record b.content { properties = [] } }

-- what a window of so many columns shows in its rectangle, where it shows this buffer and this is its view
abbrev pub pane_in : Data → ObjectLists → BufferValue → WindowState → ℕ → WindowView → PaneValues
pane_in files objects b w width v = pane_with files objects b.content (line_facts b v) w width v

-- the positions of a view are accessible in a text: its start, its point, and the starts of the blocks that it has rows of
pub record IsViewOf (text : TextValue) (v : WindowView) : Type 0 where
  pub anchor : IsAccessible text v.anchor.pos
  pub point : IsAccessible text v.point
  pub rows : All (λ (e : EntryMeaning). IsAccessible text e.start) v.rows

-- the window at a place of the leaf order, with its place in the frame and what is painted of the buffer that it shows
pub record IsLeaf (s : StateValue) (i : ℕ) (place : Placed) (w : WindowState) (content : BufferValue) : Type 0 where
  pub listed : slice_get (places s) i ≡ Some place
  pub placed : place_of place.number s ≡ Some place
  pub window : window_of place.number s.windows ≡ Some w
  pub buffer : (b : BufferValue) × (slice_get s.buffers w.buffer ≡ Some b) × (content ≡ painted_of b)
