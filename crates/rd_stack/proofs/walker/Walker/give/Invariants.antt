use Rattle.std.proofs.Common.{◌≡◌}
use Rattle.rd_stack.specs.Walks.{walk_left, work}
use Rattle.rd_stack.proofs.walker.Walker.give.Given as goal

abbrev pub invariant-loop-element : goal.invariant-loop-element
invariant-loop-element l = walk_left l.self.few l.self.frames.items ≡ walk_left l.fn.self.few l.fn.self.frames.items

abbrev pub decreases-loop-element : goal.decreases-loop-element
decreases-loop-element l = work l.self.frames.items
