use Rattle.std.proofs.Common.{◌≡◌, ◌≤◌, length, take, reverse}
use Rattle.rd_brackets.specs.Pairs.{opener, below}
use Rattle.rd_brackets.proofs.matching.last_closed.Given as goal

abbrev pub invariant-loop-count : goal.invariant-loop-count
invariant-loop-count l = record {
  within : l.count ≤ length l.opened;
  opener : opener l.code (reverse (take l.count l.opened)) ≡ opener l.code (reverse l.opened);
  below : below l.code (reverse (take l.count l.opened)) ≡ below l.code (reverse l.opened);
}

abbrev pub decreases-loop-count : goal.decreases-loop-count
decreases-loop-count l = l.count
