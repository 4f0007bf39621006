use Rattle.std.proofs.Common.{◌≡◌, ◌-◌, ◌≤◌, ◌++◌, length, take, drop}
use Rattle.rd_audit.specs.FaceRuns.{faced, painted_by}
use Rattle.rd_audit.proofs.run.paint.Given as goal

abbrev pub invariant-loop-column : goal.invariant-loop-column
invariant-loop-column l = record {
  to : l.column ≤ l.end;
  within : l.end ≤ length l.cells;
  whole : take l.column l.cells ++ faced (l.end - l.column) l.run.face (drop l.column l.cells) ≡ painted_by l.run l.fn.cells;
}

abbrev pub decreases-loop-column : goal.decreases-loop-column
decreases-loop-column l = l.end - l.column
