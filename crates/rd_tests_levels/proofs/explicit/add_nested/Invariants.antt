use Rattle.std.proofs.Common.{◌≡◌, ◌+◌, length}
use Rattle.rd_tests_levels.proofs.explicit.add_nested.Given as goal

abbrev pub invariant-loop-k : goal.invariant-loop-k
invariant-loop-k l = length l.classes ≡ length l.fn.classes + l.k
