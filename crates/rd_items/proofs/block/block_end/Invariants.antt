use Rattle.std.proofs.Common.{◌-◌}
use Rattle.rd_props.specs.Buffers.{meaning}
use Rattle.rd_items.proofs.Newlines.{ComesOn}
use Rattle.rd_items.proofs.block.block_end.Given as goal

abbrev pub invariant-loop-newline : goal.invariant-loop-newline
invariant-loop-newline l = ComesOn (meaning l.view.state.now) l.end l.pos l.newline

abbrev pub decreases-loop-newline : goal.decreases-loop-newline
decreases-loop-newline l = l.end - l.newline
