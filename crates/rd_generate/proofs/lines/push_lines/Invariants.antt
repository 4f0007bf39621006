use Rattle.std.proofs.Common.{◌≡◌, ◌++◌}
use Rattle.rd_generate.specs.Generated.{lines_from, number, spelling}
use Rattle.rd_generate.proofs.lines.push_lines.Given as goal

abbrev pub invariant-loop-i : goal.invariant-loop-i
invariant-loop-i l = (l.line ≡ l.fn.line ++ spelling (lines_from l.fn.k l.fn.x l.i)) × (l.last ≡ number l.fn.x l.i)
