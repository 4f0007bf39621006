use Rattle.std.proofs.Common.{ℕ, ◌<◌, ◌≤◌, false}
use Rattle.rd_lanes.proofs.walk.last_place.Given as goal

abbrev pub invariant-loop-end : goal.invariant-loop-end
invariant-loop-end g l = (l.end ≤ l.len) × ((k : ℕ) → l.end ≤ k → k < l.len → goal.P-post g l.passes k false)

abbrev pub decreases-loop-end : goal.decreases-loop-end
decreases-loop-end g l = l.end

abbrev pub invariant-loop-place : goal.invariant-loop-place
invariant-loop-place g l = (k : ℕ) → l.place ≤ k → k < l.len → goal.P-post g l.passes k false
