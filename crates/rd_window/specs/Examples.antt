-- Three lines and their layouts, for worked examples.
use Rattle.std.specs.Prelude.{ℕ, ◌-◌, if◌then◌else◌, List, [], ◌∷◌, map}
use Rattle.rd_matrix.specs.Entries.{made_entry}
use Rattle.rd_matrix.specs.Sources.{SourceValues, rows_at}
use Rattle.rd_matrix.specs.declared.block.Block.{Block}
use Rattle.rd_reuse.specs.Examples.{two_letters_and}
use Rattle.rd_reuse.specs.Keeping.{copied_rows, is_kept, taken}
use Rattle.rd_reuse.specs.declared.change.Change.{Change}
use Rattle.rd_rows.specs.Examples.{twelve_truncated}
use Rattle.rd_start.specs.Examples.{items_from, last_row, window}
use Rattle.rd_window.specs.Layouts.{made_layout}
use Rattle.rd_window.specs.declared.layout.Layout.{Layout}

-- the lines `a` and `b`, and a third one of so many positions, its end too; each is one row, of as many elements as it has positions
abbrev pub two_lines_and : ℕ → SourceValues
two_lines_and count = record (two_letters_and count) { rows_of = λ b shape. last_row (items_from 0 (b.end - b.start)) ∷ [] }

-- the layout of a window of three rows that shows `a`, `b` and `c`, since which so much changed
abbrev pub three_rows : Change → Layout
three_rows change =
    let entries = map made_entry (rows_at (two_lines_and 2) twelve_truncated) in
    record (made_layout entries twelve_truncated (window 3 1 1)) { change = change }

-- how often the rows of a block were copied that keeps those of this layout, since which so much changed: none of a block that keeps
-- none
abbrev pub copies_kept : Change → Block → List ℕ
copies_kept c b =
    let old = (three_rows c).matrix in
    if is_kept old c b then map (λ r. r.copies) (copied_rows (taken old c b.start)) else []
