-- The ops that move a window's point by what is seen: one step in visual order, and to what a cell shows.
use Rattle.std.specs.Prelude.{ℕ, Bool, ◌==◌, ◌&&◌, if◌then◌else◌, Option, Some, Result, Err, unwrap_or}
use Rattle.rd_ucd.specs.Data.{Data}
use Rattle.rd_matrix.specs.Entries.{shown_entries}
use Rattle.rd_reuse.specs.Changes.{is_none}
use Rattle.rd_rows.specs.Shapes.{ShapeValues, is_same_shape}
use Rattle.rd_state.specs.States.{StateValue, seen}
use Rattle.rd_state.specs.Steps.{in_window, step}
use Rattle.rd_state.specs.Windows.{shown_content}
use Rattle.rd_state.specs.declared.refused.Refused.{Refused}
use Rattle.rd_state.specs.declared.refused.Refused.TheVariants.{NotShown}
use Rattle.rd_state.specs.declared.window.WindowState.{WindowState}
use Rattle.rd_script.specs.declared.op.Op.TheVariants.{Point}
use Rattle.rd_frame.specs.Panes.{body_height}
use Rattle.rd_tree.specs.declared.placed.Placed.{Placed}
use Rattle.rd_visual.specs.Hits.{hit_in}
use Rattle.rd_visual.specs.Motion.{left_of, right_of}
use Rattle.rd_window.specs.declared.layout.Layout.{Layout}
use Rattle.rd_layout.specs.Windows.{place_of, window_shape}

-- the position one step right or left of a window's point; point stays where there is none
abbrev pub stepped_to : Data → StateValue → WindowState → Bool → ℕ
stepped_to files s w right =
    unwrap_or (if right then right_of (seen (shown_content s w)) s.objects files w.point else left_of (seen (shown_content s w)) s.objects files w.point) w.point

-- a step of a window's point in visual order
abbrev pub going : Data → StateValue → ℕ → Bool → Result StateValue Refused
going files s window right = in_window s window (λ w. step s (Point window (stepped_to files s w right)))

-- whether a layout is what a window still shows: nothing changed since, and it has the window's shape and height
abbrev pub is_shown : Layout → ShapeValues → ℕ → Bool
is_shown l shape height = is_none l.change && is_same_shape l.shape shape && (l.height == height)

-- point moves to what a cell of a last layout shows, and stays where that shows no position
abbrev pub pointed : StateValue → ℕ → WindowState → Layout → ℕ → ℕ → Result StateValue Refused
pointed s window w l row column = step s (Point window (unwrap_or (hit_in (shown_entries l.matrix) row column) w.point))

-- point moves to what a cell of a last layout shows, where the window has a place and still shows that layout; else NotShown
abbrev pub hitting_by : StateValue → ℕ → WindowState → Option Layout → Option Placed → ℕ → ℕ → Result StateValue Refused
hitting_by s window w (Some l) (Some place) row column =
    if is_shown l (window_shape s w place) (body_height place) then pointed s window w l row column else Err NotShown
hitting_by s window w _ _ row column = Err NotShown

-- point moves to what a cell of a window shows
abbrev pub hitting : StateValue → ℕ → Option Layout → ℕ → ℕ → Result StateValue Refused
hitting s window last row column = in_window s window (λ w. hitting_by s window w last (place_of window s) row column)
