use Rattle.rd_order.specs.Walks.{IsWalkOf}
use Rattle.rd_tests_levels.proofs.order.add_walked.Given as goal

abbrev pub invariant-loop-level : goal.invariant-loop-level
invariant-loop-level l = IsWalkOf l.walk l.levels
