use Rattle.std.proofs.Common.{ℕ, ◌-◌, ◌<◌, ◌≤◌, false}
use Rattle.rd_lanes.proofs.walk.first_place.Given as goal

abbrev pub invariant-loop-at : goal.invariant-loop-at
invariant-loop-at g l = (l.at ≤ l.len) × ((k : ℕ) → k < l.at → goal.P-post g l.passes k false)

abbrev pub decreases-loop-at : goal.decreases-loop-at
decreases-loop-at g l = l.len - l.at

abbrev pub invariant-loop-place : goal.invariant-loop-place
invariant-loop-place g l = (k : ℕ) → k < l.place → goal.P-post g l.passes k false
