use Rattle.std.proofs.Common.{◌≡◌, ◌++◌, ◌-◌, ◌≤◌, length, take, drop, replicate}
use Rattle.rd_term.specs.Pictures.{width_of}
use Rattle.rd_update.proofs.plan.fill_from.Given as goal

-- each row from the first that is filled up to this one has these cells
abbrev pub invariant-loop-row : goal.invariant-loop-row
invariant-loop-row l =
    (l.screen ≡ record l.fn.screen { rows = take l.row (take l.from l.fn.screen.rows ++ replicate (length l.fn.screen.rows - l.from) l.cells) ++ drop l.row l.fn.screen.rows })
    × (width_of l.screen.rows ≡ width_of l.fn.screen.rows)
    × (l.from ≤ l.row)
