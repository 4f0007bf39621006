use Rattle.std.proofs.Common.{◌≡◌, ◌++◌, ◌-◌, ◌<◌, ◌≤◌, length}
use Rattle.rd_reuse.specs.Keeping.{copied_rows, taken, taken_from}
use Rattle.rd_reuse.proofs.keeping.copies.Given as goal

-- what was copied, and then copies of the rows that are left
abbrev pub invariant-loop-number : goal.invariant-loop-number
invariant-loop-number l = record {
  rows : l.rows.items ++ copied_rows (taken_from (length l.old - l.number) l.old l.change l.start l.number) ≡ copied_rows (taken l.old l.change l.start);
  some : length l.rows.items ≤ l.number;
  few : length l.rows.items < 4294967296;
}
