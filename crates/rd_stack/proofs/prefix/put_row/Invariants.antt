use Rattle.std.proofs.Common.{◌≡◌, ◌++◌, length}
use Rattle.rd_stack.specs.Shown.{before_row_end}
use Rattle.rd_stack.specs.Walks.{walk_left}
use Rattle.rd_stack.proofs.prefix.put_row.Given as goal

abbrev pub invariant-loop-element : goal.invariant-loop-element
invariant-loop-element l = l.elements ++ before_row_end (walk_left l.walker.few l.walker.frames.items) ≡ before_row_end (walk_left l.fn.walker.few l.fn.walker.frames.items)

abbrev pub decreases-loop-element : goal.decreases-loop-element
decreases-loop-element l = length (walk_left l.walker.few l.walker.frames.items)
