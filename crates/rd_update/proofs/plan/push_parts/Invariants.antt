use Rattle.std.proofs.Common.{◌≡◌, ◌++◌, length, drop, None}
use Rattle.rd_update.specs.Updates.{start, rows_bytes}
use Rattle.rd_update.specs.Plans.{shown, parts_from}
use Rattle.rd_update.proofs.plan.push_parts.Given as goal

-- what was added, and what the other rows add
abbrev pub invariant-loop-row : goal.invariant-loop-row
invariant-loop-row l =
    let olds = (start (shown l.fn.current) l.target).rows in
    (l.bytes ++ rows_bytes l.row None (drop l.row olds) (drop l.row l.target.rows) ≡ l.fn.bytes ++ rows_bytes 0 None olds l.target.rows)
    × (l.parts ++ parts_from l.row (length l.bytes) (drop l.row olds) (drop l.row l.target.rows) ≡ l.fn.parts ++ parts_from 0 (length l.fn.bytes) olds l.target.rows)
