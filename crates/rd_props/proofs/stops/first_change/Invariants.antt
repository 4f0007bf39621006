use Rattle.std.proofs.Common.{◌≤◌, length, drop}
use Rattle.rd_props.specs.Buffers.{values_of}
use Rattle.rd_props.specs.Stops.{IsFirstChange}
use Rattle.rd_props.proofs.stops.first_change.Given as goal

abbrev pub invariant-loop-i : goal.invariant-loop-i
invariant-loop-i l = record {
  within : l.i ≤ length l.spans;
  first : IsFirstChange (values_of (drop l.i l.spans)) l.overlays l.end l.pos l.stop;
}

abbrev pub decreases-loop-i : goal.decreases-loop-i
decreases-loop-i l = l.i
