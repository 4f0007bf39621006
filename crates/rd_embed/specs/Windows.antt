-- What is told of the frame, the windows and the cursor.
use Rattle.std.specs.Prelude.{ℕ, ◌==◌, Option, None, Some, option_map, unwrap_or, slice_get}
use Rattle.rd_dump.specs.declared.dump.WindowFacts.{WindowFacts}
use Rattle.rd_layout.specs.Facts.{facts_of}
use Rattle.rd_layout.specs.Sessions.{SessionValue}
use Rattle.rd_state.specs.Windows.{window_of}
use Rattle.rd_embed.specs.declared.choices.TheConstants.{NONE}
use Rattle.rd_embed.specs.declared.windows.Place.{Place}
use Rattle.rd_embed.specs.declared.windows.WindowTold.{WindowTold}

-- the frame's rows and columns
abbrev pub frame_of : SessionValue → Place
frame_of v = record { row = v.state.height; column = v.state.width }

-- the place of the terminal's cursor, where the screen is known
abbrev pub cursor_of : SessionValue → Option Place
cursor_of v = option_map (λ screen. record { row = screen.row; column = screen.column }) v.current

-- the place of a window's cursor
abbrev pub place_of : Option (ℕ × ℕ) → Place
place_of None = record { row = NONE; column = NONE }
place_of (Some place) = record { row = place.0; column = place.1 }

-- the number of the buffer that the window with a number shows
abbrev pub buffer_in : SessionValue → ℕ → ℕ
buffer_in v number = unwrap_or (option_map (λ w. w.buffer) (window_of number v.state.windows)) NONE

-- what is told of a window
abbrev pub told_window : SessionValue → WindowFacts → WindowTold
told_window v facts = record {
  number = facts.window;
  buffer = buffer_in v facts.window;
  row = facts.rect.y;
  column = facts.rect.x;
  height = facts.rect.height;
  width = facts.rect.width;
  start = facts.start.pos;
  start_row = facts.start.row;
  point = facts.point;
  cursor_row = (place_of facts.cursor).row;
  cursor_column = (place_of facts.cursor).column;
  selected = facts.window == v.state.selected;
}

-- the window at a place in leaf order
abbrev pub window_at : SessionValue → ℕ → Option WindowTold
window_at v index = option_map (told_window v) (slice_get (facts_of v) index)
