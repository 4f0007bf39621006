use Rattle.std.proofs.Common.{◌≡◌}
use Rattle.rd_tests_lines.proofs.Rounds.{Round}
use Rattle.rd_tests_lines.proofs.reuse.right.are_right.Given as goal

abbrev pub invariant-turns : goal.invariant-turns
invariant-turns g l = record {
  source : g.B.BlockSource.meaning l.source ≡ g.B.BlockSource.meaning l.fn.source;
  round : Round (g.B.BlockSource.meaning l.fn.source) l.old l.change l.shape l.block;
}
