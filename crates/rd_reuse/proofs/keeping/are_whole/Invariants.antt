use Rattle.std.proofs.Common.{◌≡◌, ◌-◌, length}
use Rattle.rd_reuse.specs.Keeping.{are_whole, taken, taken_from}
use Rattle.rd_rows.specs.Copies.{shown_rows}
use Rattle.rd_reuse.proofs.keeping.are_whole.Given as goal

-- the rows that are left are whole where all are
abbrev pub invariant-loop-number : goal.invariant-loop-number
invariant-loop-number l =
    are_whole l.block.base (shown_rows (taken_from (length l.old - l.number) l.old l.change l.block.start l.number)) ≡ are_whole l.block.base (shown_rows (taken l.old l.change l.block.start))
