use Rattle.std.proofs.Common.{◌≡◌, ◌≤◌, take}
use Rattle.std.specs.Vec.{vec_capacity}
use Rattle.rd_spans.specs.Sides.{values_of, Rises, size_of, IsLighter}
use Rattle.rd_spans.proofs.side.cut.Given as goal

abbrev pub invariant-loop-runs : goal.invariant-loop-runs
invariant-loop-runs l = record {
  values : take l.end (values_of l.runs.items) ≡ take l.end (values_of l.initial.runs.items);
  order : Rises 0 l.runs.items;
  enough : l.end ≤ size_of l.runs.items;
  few : size_of l.runs.items ≤ size_of l.initial.runs.items;
  lighter : IsLighter l.initial.runs.items l.runs.items;
  room : vec_capacity l.runs ≡ vec_capacity l.initial.runs;
}

abbrev pub decreases-loop-runs : goal.decreases-loop-runs
decreases-loop-runs l = size_of l.runs.items
