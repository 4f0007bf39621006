use Rattle.std.proofs.Common.{◌+◌, ◌-◌, ◌<◌, ◌≤◌, length}
use Rattle.std.specs.Prelude.{slice_index}
use Rattle.rd_order.specs.Places.{AreHigh}
use Rattle.rd_order.proofs.run.l2_run_around.Given as goal

abbrev pub invariant-loop-start : goal.invariant-loop-start
invariant-loop-start l = record {
  high : AreHigh (slice_index l.levels) l.lowest l.start (l.place + 1);
  up : l.level ≤ l.lowest;
  from : l.start ≤ l.place;
}

abbrev pub decreases-loop-start : goal.decreases-loop-start
decreases-loop-start l = l.start

abbrev pub invariant-loop-end : goal.invariant-loop-end
invariant-loop-end l = record {
  high : AreHigh (slice_index l.levels) l.lowest l.start l.end;
  up : l.level ≤ l.lowest;
  to : l.place < l.end;
  within : l.end ≤ length l.levels;
}

abbrev pub decreases-loop-end : goal.decreases-loop-end
decreases-loop-end l = length l.levels - l.end
