use Rattle.std.proofs.Common.{◌≡◌, ◌++◌, take, drop}
use Rattle.rd_term.specs.Pictures.{width_of}
use Rattle.rd_update.proofs.plan.with_rows_of.Given as goal

-- the target's rows before this one, and the old ones from it on
abbrev pub invariant-loop-row : goal.invariant-loop-row
invariant-loop-row l =
    (l.after ≡ record l.fn.screen { rows = take l.row l.target.rows ++ drop l.row l.fn.screen.rows })
    × (width_of l.after.rows ≡ width_of l.target.rows)
