use Rattle.std.proofs.Common.{◌≡◌, replicate}
use Rattle.rd_term.proofs.rows.filled.Given as goal

-- so many rows as were made
abbrev pub invariant-loop-made : goal.invariant-loop-made
invariant-loop-made g l = l.rows.items ≡ replicate l.made (replicate l.width l.value)
