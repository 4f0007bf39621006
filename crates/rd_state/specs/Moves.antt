-- Where the points and the views of windows move when the text that they show changes.
use Rattle.std.specs.Prelude.{ℕ, ◌+◌, nat_lt, ◌==◌, if◌then◌else◌, min, max}
use Rattle.rd_overlays.specs.Overlays.{after_deletion}
use Rattle.rd_state.specs.declared.moves.Move.{Move}
use Rattle.rd_state.specs.declared.moves.Move.TheVariants.{Inserted, Deleted, Narrowed}
use Rattle.rd_state.specs.declared.window.WindowState.{WindowState}

-- what stands past the place of an insertion moves by its length, and what stands at the place stays
abbrev pub point_after_insertion : ℕ → ℕ → ℕ → ℕ
point_after_insertion pos count p = if nat_lt pos p then p + count else p

-- the nearest position of a range, its end included
abbrev pub brought_into : ℕ → ℕ → ℕ → ℕ
brought_into from to p = max from (min p to)

abbrev pub place_after : Move → ℕ → ℕ
place_after (Inserted pos count) p = point_after_insertion pos count p
place_after (Deleted from to) p = after_deletion from to p
place_after (Narrowed from to) p = brought_into from to p

-- a window whose point and view move with the text
abbrev pub moved : Move → WindowState → WindowState
moved how w = record w { point = place_after how w.point; anchor = record { pos = place_after how w.anchor.pos; row = w.anchor.row } }

-- a window after a move of the text of the buffer with this number: its point and view move where it shows that
abbrev pub moved_by : ℕ → Move → WindowState → WindowState
moved_by buffer how w = if w.buffer == buffer then moved how w else w

-- a window under its own number, after a move of the text of the buffer with this number
abbrev pub moved_in : ℕ → Move → ℕ × WindowState → ℕ × WindowState
moved_in buffer how e = (e.0, moved_by buffer how e.1)
