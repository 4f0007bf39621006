use Rattle.std.proofs.Common.{◌-◌, arith}
use Rattle.rd_stack.proofs.Walks.{in-place}
use Rattle.rd_stack.proofs.walker.Walker.step.Goals as goal

pub returns-in-Some : goal.returns-in-Some
returns-in-Some c =
    in-place c.step.result c.args.self.now.frames.items (c.len-innermost.result - 1) _ c.in-Some.frame.now c.step.new.self (omega arith) c.in-Some.ensures.value c.step.ensures
