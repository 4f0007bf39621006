use Rattle.std.proofs.Common.{◌≡◌, ℕ, ◌+◌, ◌≤◌, Bool}
use Rattle.rd_term.specs.Walks.{Tells, back_while}
use Rattle.rd_term.proofs.walk.back_while.Given as goal

abbrev pub invariant-loop-place : goal.invariant-loop-place
invariant-loop-place g l = record {
  same : (test : ℕ → Bool) → Tells 1 (l.from + 1) (goal.P-post g l.passes) test → back_while test l.place ≡ back_while test l.from;
  order : l.place ≤ l.from;
}

abbrev pub decreases-loop-place : goal.decreases-loop-place
decreases-loop-place g l = l.place
