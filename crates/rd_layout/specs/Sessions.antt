-- A session, and what an op makes of it.
use Rattle.std.specs.Prelude.{◌≡◌, ◌≢◌, ℕ, Bool, true, false, if◌then◌else◌, Option, None, Result, Ok, Err, List, [], length, option_map, slice_get}
use Rattle.rd_ucd.specs.Data.{Data}
use Rattle.rd_script.specs.declared.op.Op.{Op}
use Rattle.rd_script.specs.declared.op.Op.TheVariants.{Frame, Go, Hit, Redisplay}
use Rattle.rd_state.specs.Effects.{effect_of}
use Rattle.rd_state.specs.States.{BufferValue, StateValue, number_of, opening}
use Rattle.rd_state.specs.Steps.{step}
use Rattle.rd_state.specs.Windows.{under}
use Rattle.rd_state.specs.declared.refused.Refused.{Refused}
use Rattle.rd_state.specs.declared.refused.Refused.TheVariants.{Memory}
use Rattle.rd_term.specs.Pictures.{Picture}
use Rattle.rd_window.specs.declared.layout.Layout.{Layout}
use Rattle.rd_layout.specs.Changes.{layouts_after}
use Rattle.rd_layout.specs.Pointing.{going, hitting}

-- the data files, the state, what the screen shows where that is known, and the last layouts of windows by their numbers
pub record SessionValue : Type 0 where
  pub files : Data
  pub state : StateValue
  pub current : Option Picture
  pub layouts : List (ℕ × Layout)

-- the opening: the frame is garbaged, and nothing was laid out
abbrev pub opened : Data → SessionValue
opened files = record { files = files; state = opening; current = None; layouts = [] }

-- the last layout of the window with a number
abbrev pub layout_of : ℕ → List (ℕ × Layout) → Option Layout
layout_of number layouts = under number layouts

abbrev pub is_frame : Op → Bool
is_frame (Frame width height) = true
is_frame op = false

-- every op but the one that shows the frame
abbrev pub IsStep : Op → Type 0
IsStep (Redisplay stop) = ⊥
IsStep op = Unit {0}

-- the state behind an op, or the first refusal; the last layouts are read by `hit` alone
abbrev pub session_step : SessionValue → Op → Result StateValue Refused
session_step v (Go window right) = going v.files v.state window right
session_step v (Hit window row column) = hitting v.state window (layout_of window v.layouts) row column
session_step v op = step v.state op

-- a session in which an op led to a state: an accepted frame makes the screen unknown
abbrev pub behind : SessionValue → Op → StateValue → SessionValue
behind v op state = record {
  files = v.files;
  state = state;
  current = if is_frame op then None else v.current;
  layouts = layouts_after (effect_of v.state op) state v.layouts;
}

-- what a call that applies an op does; a refusal leaves all as it was
abbrev pub Applied : Result Unit Refused → Op → SessionValue → SessionValue → Type 0
Applied (Ok _) op old new = (state : StateValue) × (session_step old op ≡ Ok state) × (new ≡ behind old op state)
Applied (Err refused) op old new = (new ≡ old) × (refused ≢ Memory → session_step old op ≡ Err refused)

-- how many characters the buffer with a name has
abbrev pub length_of : List ℕ → List BufferValue → Option ℕ
length_of name buffers = option_map (λ b. length b.content.text.text) (slice_get buffers (number_of name buffers))
