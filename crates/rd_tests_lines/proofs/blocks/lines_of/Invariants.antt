use Rattle.std.proofs.Common.{◌≡◌, ℕ}
use Rattle.rd_matrix.specs.Blocks.{end_from, first_start}
use Rattle.rd_matrix.specs.Held.{blocks_held}
use Rattle.rd_tests_lines.proofs.blocks.lines_of.Given as goal

abbrev pub invariant-loop-sign : goal.invariant-loop-sign
invariant-loop-sign l = record {
  first : first_start (blocks_held l.source) ≡ 1;
  end : (from : ℕ) → end_from from (blocks_held l.source) ≡ l.end;
}
