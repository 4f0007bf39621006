-- The row at which a window starts, among all rows of its text, which are numbered from 0.
use Rattle.std.specs.Prelude.{ℕ, zero, suc, ◌+◌, ◌-◌, ◌/◌, min, nat_lt, nat_le, Bool, ◌==◌, ◌&&◌, if◌then◌else◌, List, [], ◌∷◌, ◌++◌}
use Rattle.std.specs.List.{find}
use Rattle.std.specs.Option.{unwrap_or}
use Rattle.rd_base.specs.Lists.{moved}
use Rattle.rd_start.specs.declared.wanted.Wanted.{Wanted}

-- the row of a window's old start, the row in which the item that covers point begins, and how many rows there are
pub record Places : Type 0 where
  pub old : ℕ
  pub point : ℕ
  pub count : ℕ

-- the rows that are wanted above and below point's, at most a quarter of the window's
abbrev pub margin_of : Wanted → ℕ
margin_of w = min w.margin (w.height / 4)

-- no row is wanted above point's where the view starts with the text's first row, and none below it where it has the text's last
abbrev pub wanted_above : Wanted → ℕ → ℕ
wanted_above w start = if start == 0 then 0 else margin_of w

abbrev pub wanted_below : Wanted → ℕ → ℕ → ℕ
wanted_below w count start = if nat_le count (start + w.height) then 0 else margin_of w

-- whether a row is one of the rows in view from a start on, at least so many below the first and so many above the last
abbrev pub is_inside : ℕ → ℕ → ℕ → ℕ → ℕ → Bool
is_inside height above below start row = nat_le (start + above) row && nat_le (row + below + 1) (start + height)

-- whether a row is one in view from a start on
abbrev pub is_in_view : ℕ → ℕ → ℕ → Bool
is_in_view height start row = is_inside height 0 0 start row

-- whether point is in view from a row on, and as far from the view's edges as is wanted
abbrev pub suits : Wanted → Places → ℕ → Bool
suits w at start = nat_lt start at.count && is_inside w.height (wanted_above w start) (wanted_below w at.count start) start at.point

-- the row so many rows above a row, where there is one, and the two rows at this distance from it, the lesser first
abbrev pub above_at : ℕ → ℕ → List ℕ
above_at row far = if nat_le far row then (row - far) ∷ [] else []

abbrev pub both_at : ℕ → ℕ → List ℕ
both_at row far = above_at row far ++ (row + far) ∷ []

-- the rows at most so many rows away from a row, the nearest first, and the lesser first where two are equally near
abbrev pub around : ℕ → ℕ → List ℕ
around row zero = row ∷ []
around row (suc far) = around row far ++ both_at row (suc far)

-- the start that brings point's row to the middle
abbrev pub centred : Wanted → Places → ℕ
centred w at = at.point - w.height / 2

-- the old start where it suits, else the nearest that suits, unless it is too far away: then point's row comes to the middle
abbrev pub following : Wanted → Places → ℕ
following w at = unwrap_or (find (suits w at) (around at.old w.conservatively)) (centred w at)

-- the old start scrolled by the rows that are pending, held to the rows that there are
abbrev pub scrolled : Wanted → Places → ℕ
scrolled w at = min (moved w.pending at.old) (at.count - 1)

-- the row at which a window starts
abbrev pub start_of : Wanted → Places → ℕ
start_of w at = if w.forced then scrolled w at else following w at
