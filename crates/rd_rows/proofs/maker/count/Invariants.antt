use Rattle.std.proofs.Common.{◌≡◌, ◌+◌}
use Rattle.rd_rows.proofs.maker.count.Given as goal

abbrev pub invariant-loop-k : goal.invariant-loop-k
invariant-loop-k g l = l.steps ≡ l.fn.steps + l._k
