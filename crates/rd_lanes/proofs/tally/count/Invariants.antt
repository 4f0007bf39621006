use Rattle.std.proofs.Common.{◌≡◌, ◌-◌, ◌≤◌, eqb, length, take}
use Rattle.std.specs.List.{count_by}
use Rattle.rd_lanes.proofs.tally.count.Given as goal

abbrev pub invariant-loop-at : goal.invariant-loop-at
invariant-loop-at l = (l.at ≤ length l.list) × (l.count ≤ l.at) × (l.count ≡ count_by (λ y. eqb y l.x) (take l.at l.list))

abbrev pub decreases-loop-at : goal.decreases-loop-at
decreases-loop-at l = length l.list - l.at
