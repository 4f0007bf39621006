use Rattle.std.proofs.Common.{◌≡◌, take}
use Rattle.rd_rows.specs.Copies.{shown_rows}
use Rattle.rd_window.proofs.remembered.copies.Given as goal

abbrev pub invariant-loop-row : goal.invariant-loop-row
invariant-loop-row l = shown_rows l.more.items ≡ shown_rows (take l.row-index l.rows)
