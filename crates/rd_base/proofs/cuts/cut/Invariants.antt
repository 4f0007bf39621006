use Rattle.std.proofs.Common.{◌≡◌, ℕ, ◌-◌, ◌≤◌, Option, None, Some, List, ◌++◌, length, take, drop}
use Rattle.rd_base.specs.Cuts.{cut}
use Rattle.rd_base.proofs.cuts.cut.Given as goal

-- what was cut, behind these bytes
abbrev pub behind : List ℕ → Option (List ℕ × List ℕ) → Option (List ℕ × List ℕ)
behind front None = None
behind front (Some parts) = Some (front ++ parts.0, parts.1)

abbrev pub invariant-loop-place : goal.invariant-loop-place
invariant-loop-place l = record {
  within : l.place ≤ length l.bytes;
  whole : behind (take l.place l.bytes) (cut l.byte (drop l.place l.bytes)) ≡ cut l.byte l.bytes;
}

abbrev pub decreases-loop-place : goal.decreases-loop-place
decreases-loop-place l = length l.bytes - l.place
