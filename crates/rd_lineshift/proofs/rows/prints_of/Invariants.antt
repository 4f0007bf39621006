use Rattle.std.proofs.Common.{◌≡◌, length, take, map}
use Rattle.rd_lineshift.specs.Numbers.{print_from}
use Rattle.rd_lineshift.proofs.rows.prints_of.Given as goal

abbrev pub invariant-loop-row : goal.invariant-loop-row
invariant-loop-row l = (l.prints.items ≡ map (print_from 0) (take l.row l.screen.rows)) × (length l.prints.items ≡ l.row)
