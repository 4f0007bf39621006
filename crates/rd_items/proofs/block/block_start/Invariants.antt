use Rattle.std.proofs.Common.{◌-◌}
use Rattle.rd_props.specs.Buffers.{meaning}
use Rattle.rd_items.proofs.Newlines.{ComesBack}
use Rattle.rd_items.proofs.block.block_start.Given as goal

abbrev pub invariant-loop-from : goal.invariant-loop-from
invariant-loop-from l = ComesBack (meaning l.view.state.now) l.begin l.pos l.from

abbrev pub decreases-loop-from : goal.decreases-loop-from
decreases-loop-from l = l.from - l.begin
