use Rattle.std.proofs.Common.{◌≡◌, ◌≤◌, take}
use Rattle.rd_brackets.specs.Sides.{last_side}
use Rattle.rd_brackets.proofs.sides.last_side.Given as goal

abbrev pub invariant-loop-count : goal.invariant-loop-count
invariant-loop-count l = record {
  within : l.count ≤ l.place;
  last : last_side l.sos (take l.count l.types) ≡ last_side l.sos (take l.place l.types);
}

abbrev pub decreases-loop-count : goal.decreases-loop-count
decreases-loop-count l = l.count
