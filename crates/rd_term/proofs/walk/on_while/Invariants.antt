use Rattle.std.proofs.Common.{◌≡◌, ℕ, ◌+◌, ◌-◌, ◌≤◌, Bool}
use Rattle.rd_term.specs.Walks.{Tells, passing}
use Rattle.rd_term.proofs.walk.on_while.Given as goal

abbrev pub invariant-loop-place : goal.invariant-loop-place
invariant-loop-place g l = record {
  same : (test : ℕ → Bool) → Tells l.from l.end (goal.P-post g l.passes) test → l.place + passing test l.place (l.end - l.place) ≡ l.from + passing test l.from (l.end - l.from);
  order : l.from ≤ l.place;
  within : l.place ≤ l.end;
}

abbrev pub decreases-loop-place : goal.decreases-loop-place
decreases-loop-place g l = l.end - l.place
