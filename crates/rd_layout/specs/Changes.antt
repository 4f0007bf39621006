-- What the ops since a window's last layout can have changed of what it shows.
use Rattle.std.specs.Prelude.{ℕ, ◌-◌, ◌==◌, if◌then◌else◌, Option, None, Some, List, map}
use Rattle.rd_reuse.specs.Changes.{all, edit, join, none}
use Rattle.rd_reuse.specs.declared.change.Change.{Change}
use Rattle.rd_state.specs.States.{StateValue}
use Rattle.rd_state.specs.Windows.{window_of}
use Rattle.rd_state.specs.declared.effect.Effect.{Effect}
use Rattle.rd_state.specs.declared.effect.Effect.TheVariants.{Nothing, Edit, Moved, All, Window}
use Rattle.rd_state.specs.declared.window.WindowState.{WindowState}
use Rattle.rd_window.specs.declared.layout.Layout.{Layout}

-- a change of what the windows that show a buffer show, and none of any other window's
abbrev pub if_shown : ℕ → ℕ → Change → Change
if_shown buffer shown change = if buffer == shown then change else none

-- the text of a range may look otherwise
abbrev pub restyled : ℕ × ℕ → Change
restyled range = edit range.0 (range.1 - range.0) (range.1 - range.0)

-- the change that an effect is for the window with a number, which shows a buffer
abbrev pub change_by : Effect → ℕ → ℕ → Change
change_by Nothing window shown = none
change_by (Edit buffer from removed added) window shown = if_shown buffer shown (edit from removed added)
change_by (Moved buffer before after) window shown = if_shown buffer shown (join (restyled before) (restyled after))
change_by (All buffer) window shown = if_shown buffer shown all
change_by (Window number) window shown = if number == window then all else none

-- the change that an effect is for the window with a number, and none where no such window lives
abbrev pub change_in : Effect → ℕ → Option WindowState → Change
change_in effect number None = none
change_in effect number (Some w) = change_by effect number w.buffer

-- a last layout of a window of the state behind an op, with what the op changed joined to what had changed since
abbrev pub later : Effect → StateValue → ℕ × Layout → ℕ × Layout
later effect s e = (e.0, record e.1 { change = join e.1.change (change_in effect e.0 (window_of e.0 s.windows)) })

-- the last layouts behind an op with this effect that led to a state
abbrev pub layouts_after : Effect → StateValue → List (ℕ × Layout) → List (ℕ × Layout)
layouts_after effect s layouts = map (later effect s) layouts
