use Rattle.std.proofs.Common.{◌≡◌, ◌++◌, ◌*◌}
use Rattle.rd_generate.specs.Generated.{hundreds, number}
use Rattle.rd_generate.proofs.lines.push_insertions.Given as goal

abbrev pub invariant-loop-j : goal.invariant-loop-j
invariant-loop-j l = (l.lines ≡ l.fn.lines ++ hundreds l.fn.seed l.j) × (l.x ≡ number l.fn.seed (100 * l.j))
