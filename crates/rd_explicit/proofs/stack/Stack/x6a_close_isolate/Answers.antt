use Rattle.std.proofs.Common.{◌≤◌, sym, ◌∙◌, length, arith}
use Rattle.rd_explicit.proofs.Stacks.{x6a_below_isolate-short}
use Rattle.rd_explicit.proofs.stack.Stack.x6a_close_isolate.Goals as goal

pub returns : goal.returns
returns c =
    let short : length c.loop-self.self ≤ 1 = omega arith in
    sym (x6a_below_isolate-short c.loop-self.self short) ∙ c.loop-self.invariant
