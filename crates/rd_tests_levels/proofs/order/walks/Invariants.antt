use Rattle.rd_order.specs.Walks.{IsWalkOf}
use Rattle.rd_tests_levels.proofs.order.walks.Given as goal

abbrev pub invariant-loop-index : goal.invariant-loop-index
invariant-loop-index l = IsWalkOf l.walk l.levels
