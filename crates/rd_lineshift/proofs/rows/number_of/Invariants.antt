use Rattle.std.proofs.Common.{◌≡◌, ◌+◌, drop}
use Rattle.rd_lineshift.specs.Numbers.{number_in}
use Rattle.rd_lineshift.proofs.rows.number_of.Given as goal

-- no row before this one is the same
abbrev pub invariant-loop-i : goal.invariant-loop-i
invariant-loop-i l = l.i + number_in (drop l.i l.target.rows) l.row ≡ number_in l.target.rows l.row
