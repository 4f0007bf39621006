use Rattle.std.proofs.Common.{◌≡◌, ◌<◌, ◌≤◌, length, drop, All, IfSome}
use Rattle.rd_brackets.specs.Pairs.{closings}
use Rattle.rd_brackets.proofs.resolve.closings.Given as goal

abbrev pub invariant-loop-left : goal.invariant-loop-left
invariant-loop-left l = record {
  within : l.left ≤ length l.pairs;
  found : l.found ≡ closings (drop l.left l.pairs) l.count;
  inside : All (λ closing. IfSome closing (λ place. place < l.count)) l.found;
}

abbrev pub decreases-loop-left : goal.decreases-loop-left
decreases-loop-left l = l.left
