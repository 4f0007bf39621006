use Rattle.rd_order.specs.Walks.{IsWalkOf}
use Rattle.rd_tests_levels.proofs.levels.is_order.Given as goal

abbrev pub invariant-loop-word : goal.invariant-loop-word
invariant-loop-word l =
    (goal.iterator-loop-word).can_next l.word-iterator ×
    (goal.iterator-loop-word).is_finite l.word-iterator ×
    IsWalkOf l.walk l.levels
