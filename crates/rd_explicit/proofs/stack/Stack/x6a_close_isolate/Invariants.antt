use Rattle.std.proofs.Common.{◌≡◌, length}
use Rattle.rd_explicit.specs.Explicit.{x6a_below_isolate}
use Rattle.rd_explicit.proofs.stack.Stack.x6a_close_isolate.Given as goal

abbrev pub invariant-loop-self : goal.invariant-loop-self
invariant-loop-self l = x6a_below_isolate l.self ≡ x6a_below_isolate l.fn.self

abbrev pub decreases-loop-self : goal.decreases-loop-self
decreases-loop-self l = length l.self
