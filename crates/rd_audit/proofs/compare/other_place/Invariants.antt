use Rattle.std.proofs.Common.{◌≡◌, drop}
use Rattle.rd_audit.specs.Verdicts.{other_place}
use Rattle.rd_audit.proofs.compare.other_place.Given as goal

abbrev pub invariant-loop-row : goal.invariant-loop-row
invariant-loop-row l = other_place l.row (drop l.row l.rows) (drop l.row l.terminal.rows) ≡ other_place 0 l.rows l.terminal.rows
