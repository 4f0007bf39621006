use Rattle.std.proofs.Common.{◌≡◌, ◌++◌}
use Rattle.rd_generate.specs.Generated.{shown}
use Rattle.rd_generate.proofs.lines.push_shown.Given as goal

abbrev pub invariant-loop-time : goal.invariant-loop-time
invariant-loop-time l = l.lines ≡ l.fn.lines ++ shown l.time l.op
