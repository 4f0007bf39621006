use Rattle.std.proofs.Common.{◌≡◌, ℕ, ◌<◌, true, Some, slice_get}
use Rattle.rd_matrix.specs.declared.matrix.Entry.{Entry}
use Rattle.rd_reuse.specs.Keeping.{entry_under, has_base}
use Rattle.rd_rows.specs.Copies.{shown_rows}
use Rattle.rd_tests_lines.proofs.reuse.right.is_right.Given as goal

-- the older rows up to a number are the block's own
abbrev pub invariant-loop-number : goal.invariant-loop-number
invariant-loop-number l = record {
  own : (j : ℕ) (e : Entry) → j < l.number → entry_under l.old l.change l.block.start j ≡ Some e → has_base l.block.base e.row.shown ≡ true → slice_get (shown_rows l.rows) j ≡ Some e.row.shown;
}
