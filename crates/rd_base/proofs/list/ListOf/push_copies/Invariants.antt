use Rattle.std.proofs.Common.{◌≡◌, ◌++◌, replicate}
use Rattle.rd_base.proofs.list.ListOf.push_copies.Given as goal

abbrev pub invariant-loop-k : goal.invariant-loop-k
invariant-loop-k g l = l.self ≡ l.fn.self ++ replicate l._k l.value
