use Rattle.std.proofs.Common.{◌≡◌, drop}
use Rattle.rd_lineshift.specs.Numbers.{print_from}
use Rattle.rd_lineshift.proofs.rows.print_of.Given as goal

abbrev pub invariant-loop-i : goal.invariant-loop-i
invariant-loop-i l = print_from l.print (drop l.i l.cells) ≡ print_from 0 l.cells
