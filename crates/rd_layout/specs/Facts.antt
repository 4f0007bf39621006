-- What a dump says of the windows of a session.
use Rattle.std.specs.Prelude.{ℕ, Option, None, Some, List, []}
use Rattle.rd_dump.specs.declared.dump.WindowFacts.{WindowFacts}
use Rattle.rd_matrix.specs.Cursors.{cursor_in}
use Rattle.rd_matrix.specs.Entries.{shown_entries}
use Rattle.rd_matrix.specs.declared.matrix.Entry.{Entry}
use Rattle.rd_state.specs.declared.window.WindowState.{WindowState}
use Rattle.rd_tree.specs.declared.placed.Placed.{Placed}
use Rattle.rd_window.specs.declared.layout.Layout.{Layout}
use Rattle.rd_layout.specs.Sessions.{SessionValue, layout_of}
use Rattle.rd_layout.specs.Windows.{of_windows}

-- the rows of a last layout, and none before the first
abbrev pub rows_of : Option Layout → List Entry
rows_of None = []
rows_of (Some l) = l.matrix

-- where point's item begins among the rows of a window's last layout, as a row and a column of its text
abbrev pub cursor_since : Option Layout → ℕ → Option (ℕ × ℕ)
cursor_since last point = cursor_in point (shown_entries (rows_of last))

-- what a dump says of a window that lives: its place, its start, its point, and its cursor
abbrev pub fact_of : SessionValue → Placed → WindowState → WindowFacts
fact_of v place w = record {
  window = place.number;
  rect = place.rect;
  start = w.anchor;
  point = w.point;
  cursor = cursor_since (layout_of place.number v.layouts) w.point;
}

-- what a dump says of all windows, in leaf order
abbrev pub facts_of : SessionValue → List WindowFacts
facts_of v = of_windows (fact_of v) v.state
