use Rattle.std.proofs.Common.{◌≡◌, length, take, map}
use Rattle.rd_lineshift.specs.Numbers.{number_in}
use Rattle.rd_lineshift.proofs.rows.numbers_of.Given as goal

abbrev pub invariant-loop-row : goal.invariant-loop-row
invariant-loop-row l = (l.numbers.items ≡ map (number_in l.target.rows) (take l.row l.screen.rows)) × (length l.numbers.items ≡ l.row)
