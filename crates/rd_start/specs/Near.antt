-- The rows near a window's old start, its new start and point, and the blocks that have such a row.
use Rattle.std.specs.Prelude.{ℕ, ◌+◌, min, max, nat_le, Bool, ◌&&◌, ◌||◌, if◌then◌else◌}
use Rattle.rd_base.specs.Lists.{is_between}
use Rattle.rd_matrix.specs.Rows.{blocks_with}
use Rattle.rd_matrix.specs.Sources.{SourceValues, costs_of}
use Rattle.rd_rows.specs.Shapes.{ShapeValues}
use Rattle.rd_start.specs.Chosen.{places_of}
use Rattle.rd_start.specs.Starts.{Places, suits, scrolled}
use Rattle.rd_start.specs.declared.wanted.Wanted.{Wanted}

-- whether a row is at most so many rows below another, or so many others above it
abbrev pub is_within : ℕ → ℕ → ℕ → ℕ → Bool
is_within above below row k = nat_le row (k + above) && nat_le k (row + below)

-- whether a row is near: where the start is forced, a row from the lesser of the old and the new start up to the end of the view
-- from the greater; else, where the old start suits, a row in view from there; else a row at most so many rows away from the old start, or
-- from its view, as the start may be moved, or a row at most a view's height away from point's
abbrev pub is_near : Wanted → Places → ℕ → Bool
is_near w at k =
    if w.forced
    then is_between (min at.old (scrolled w at)) (max at.old (scrolled w at) + w.height) k
    else if suits w at at.old
    then is_between at.old (at.old + w.height) k
    else is_within w.conservatively (w.conservatively + w.height) at.old k || is_within w.height w.height at.point k

-- the sum of the costs of a source's blocks that have a row near a window
abbrev pub near_costs : SourceValues → ShapeValues → Wanted → ℕ
near_costs m shape w = costs_of (λ b. m.cost_of b shape) (blocks_with (is_near w (places_of m shape w)) (λ b. m.rows_of b shape) 0 m.blocks)
