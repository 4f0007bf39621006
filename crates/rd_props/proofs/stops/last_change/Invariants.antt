use Rattle.std.proofs.Common.{◌≤◌, length, drop}
use Rattle.rd_props.specs.Buffers.{values_of}
use Rattle.rd_props.specs.Stops.{IsLastChange}
use Rattle.rd_props.proofs.stops.last_change.Given as goal

abbrev pub invariant-loop-i : goal.invariant-loop-i
invariant-loop-i l = record {
  within : l.i ≤ length l.spans;
  last : IsLastChange (values_of (drop l.i l.spans)) l.overlays l.begin l.pos l.stop;
}

abbrev pub decreases-loop-i : goal.decreases-loop-i
decreases-loop-i l = l.i
