use Rattle.std.proofs.Common.{◌≡◌, ◌+◌, ◌≤◌}
use Rattle.std.specs.Vec.{vec_capacity}
use Rattle.rd_spans.specs.Sides.{size_of, AreMoved}
use Rattle.rd_spans.proofs.side.shift.Given as goal

abbrev pub invariant-loop-left : goal.invariant-loop-left
invariant-loop-left l = record {
  moved : AreMoved l.initial.from.items l.initial.to.items l.from.items l.to.items;
  less : size_of l.from.items + size_of l.to.items ≡ size_of l.initial.from.items + size_of l.initial.to.items;
  more : size_of l.to.items + l.left ≡ size_of l.initial.to.items + l.count;
  most : l.left ≤ l.count;
  from_room : vec_capacity l.from ≡ vec_capacity l.initial.from;
  to_room : vec_capacity l.to ≡ vec_capacity l.initial.to;
}

abbrev pub decreases-loop-left : goal.decreases-loop-left
decreases-loop-left l = l.left
