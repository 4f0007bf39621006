use Rattle.rd_matrix.specs.Entries.{shown_entries}
use Rattle.rd_visual.specs.Hits.{AreInPositions}
use Rattle.rd_tests_lines.proofs.visual.matrix_of.Given as goal

abbrev pub invariant-loop-row : goal.invariant-loop-row
invariant-loop-row l = record {
  next : (goal.iterator-loop-row).can_next l.row-iterator;
  finite : (goal.iterator-loop-row).is_finite l.row-iterator;
  fits : AreInPositions (shown_entries l.matrix);
}
