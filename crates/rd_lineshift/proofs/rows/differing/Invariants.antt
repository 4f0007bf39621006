use Rattle.std.proofs.Common.{◌≡◌, ◌+◌, ◌≤◌, drop}
use Rattle.rd_update.specs.Updates.{differing as differing_rows}
use Rattle.rd_lineshift.proofs.rows.differing.Given as goal

-- the rows before this one, and those from it on
abbrev pub invariant-loop-row : goal.invariant-loop-row
invariant-loop-row l = (l.count + differing_rows (drop l.row l.current.rows) (drop l.row l.target.rows) ≡ differing_rows l.current.rows l.target.rows) × (l.count ≤ l.row)
