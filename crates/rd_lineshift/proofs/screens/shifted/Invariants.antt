use Rattle.std.proofs.Common.{◌≡◌, ◌++◌, length, take, drop, replicate}
use Rattle.rd_term.specs.Pictures.{blank_row, width_of}
use Rattle.rd_lineshift.specs.Shifts.{shifted}
use Rattle.rd_lineshift.proofs.screens.shifted.Given as goal

-- the rows after the shift before this one, and blank ones from it on
abbrev pub invariant-loop-row : goal.invariant-loop-row
invariant-loop-row l = record {
  rows : l.screen.rows ≡ take l.row (shifted l.fn.shift l.current).rows ++ drop l.row (replicate (length l.current.rows) (blank_row (width_of l.current.rows)));
  width : width_of l.screen.rows ≡ width_of l.current.rows;
}
