use Rattle.std.specs.Prelude.{◌≡◌, drop}
use Rattle.rd_matrix.specs.Cursors.{cursor_in}
use Rattle.rd_matrix.specs.Entries.{shown_entries}
use Rattle.rd_matrix.proofs.Below.{down}
use Rattle.rd_matrix.proofs.matrix.Matrix.cursor.Given as goal

abbrev pub invariant-loop-row : goal.invariant-loop-row
invariant-loop-row l = cursor_in l.point (shown_entries l.self-inside.entries.items) ≡ down l.row (cursor_in l.point (shown_entries (drop l.row l.self-inside.entries.items)))
