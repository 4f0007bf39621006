use Rattle.std.proofs.Common.{◌≡◌, ◌≤◌, ℕ, List, length}
use Rattle.std.specs.Vec.{vec_capacity}
use Rattle.rd_spans.specs.declared.run.ValueRun.{ValueRun}
use Rattle.rd_spans.specs.Values.{value_at}
use Rattle.rd_spans.specs.Sides.{values_of, Rises, size_of, needs}
use Rattle.rd_spans.proofs.side.trim.Given as goal

abbrev pub invariant-loop-run : goal.invariant-loop-run
invariant-loop-run l = record {
  values : (p : ℕ) → value_at (values_of l.runs.items) p ≡ value_at (values_of l.initial.runs.items) p;
  order : Rises 0 l.runs.items;
  less : size_of l.runs.items ≤ size_of l.initial.runs.items;
  lighter : (other : List ValueRun) → needs l.runs.items other ≤ needs l.initial.runs.items other;
  count : length l.runs.items ≤ length l.initial.runs.items;
  room : vec_capacity l.runs ≡ vec_capacity l.initial.runs;
}

abbrev pub decreases-loop-run : goal.decreases-loop-run
decreases-loop-run l = length l.runs.items
