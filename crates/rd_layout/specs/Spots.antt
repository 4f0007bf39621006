-- What stands at a cell of the frame.
use Rattle.std.specs.Prelude.{ℕ, ◌-◌, nat_lt, nat_le, ◌&&◌, if◌then◌else◌, Option, None, Some, Result, Err, find}
use Rattle.rd_frame.specs.Panes.{body_height, body_width}
use Rattle.rd_matrix.specs.Entries.{shown_entries}
use Rattle.rd_script.specs.declared.op.Op.TheVariants.{Point}
use Rattle.rd_state.specs.States.{StateValue}
use Rattle.rd_state.specs.Steps.{in_window, step}
use Rattle.rd_state.specs.Windows.{window_of}
use Rattle.rd_state.specs.declared.refused.Refused.{Refused}
use Rattle.rd_state.specs.declared.refused.Refused.TheVariants.{NotShown}
use Rattle.rd_state.specs.declared.window.WindowState.{WindowState}
use Rattle.rd_tree.specs.Places.{lies_in}
use Rattle.rd_tree.specs.declared.placed.Placed.{Placed}
use Rattle.rd_visual.specs.Hits.{hit_in}
use Rattle.rd_window.specs.declared.layout.Layout.{Layout}
use Rattle.rd_layout.specs.Pointing.{is_shown}
use Rattle.rd_layout.specs.Sessions.{SessionValue, layout_of}
use Rattle.rd_layout.specs.Windows.{places, window_shape}
use Rattle.rd_layout.specs.declared.spot.Shows.{Shows}
use Rattle.rd_layout.specs.declared.spot.Shows.TheVariants.{Position, NoPosition, Unknown}
use Rattle.rd_layout.specs.declared.spot.Spot.{Spot}
use Rattle.rd_layout.specs.declared.spot.Spot.TheVariants.{Text, Margin, Border, ModeLine, EchoArea}

-- the window in whose rectangle a cell of the frame lies, by its row and its column
abbrev pub window_under : ℕ → ℕ → StateValue → Option Placed
window_under row column s = find (λ (place : Placed). lies_in column row place.rect) (places s)

abbrev pub shows_position : Option ℕ → Shows
shows_position None = NoPosition
shows_position (Some pos) = Position pos

-- what a cell of a window's text shows, by its last layout, where the window still shows that
abbrev pub shows_by : StateValue → Placed → Option WindowState → Option Layout → ℕ → ℕ → Shows
shows_by s place (Some w) (Some l) row column =
    if is_shown l (window_shape s w place) (body_height place) then shows_position (hit_in (shown_entries l.matrix) row column) else Unknown
shows_by s place w l row column = Unknown

abbrev pub shows_in : SessionValue → Placed → ℕ → ℕ → Shows
shows_in v place row column = shows_by v.state place (window_of place.number v.state.windows) (layout_of place.number v.layouts) row column

-- what stands in a row of a window's text, at a column behind its margins
abbrev pub body_spot : SessionValue → Placed → ℕ → ℕ → Spot
body_spot v place row column =
    if nat_lt column (body_width v.state.width place) then Text place.number row column (shows_in v place row column) else Border place.number

-- what stands in a window, at a row and a column of its rectangle
abbrev pub window_spot : SessionValue → Placed → ℕ → ℕ → Spot
window_spot v place row column =
    if nat_le (body_height place) row then ModeLine place.number
    else (if nat_lt column place.margins then Margin place.number else body_spot v place row (column - place.margins))

-- what stands at a cell of the frame, by the window that holds it: the echo area where none does
abbrev pub held_spot : SessionValue → ℕ → ℕ → Option Placed → Spot
held_spot v row column None = EchoArea
held_spot v row column (Some place) = window_spot v place (row - place.rect.y) (column - place.rect.x)

-- what stands at a row and a column of the frame, both from 0, and None outside of it
abbrev pub spot_at : SessionValue → ℕ → ℕ → Option Spot
spot_at v row column =
    if nat_lt row v.state.height && nat_lt column v.state.width then Some (held_spot v row column (window_under row column v.state)) else None

-- what the op `hit` makes at a cell of a window's text, by what the cell shows
abbrev pub hit_by : StateValue → ℕ → Shows → Result StateValue Refused
hit_by s window (Position pos) = step s (Point window pos)
hit_by s window NoPosition = in_window s window (λ w. step s (Point window w.point))
hit_by s window Unknown = Err NotShown
