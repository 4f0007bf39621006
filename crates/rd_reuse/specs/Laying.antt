-- Words for what the code holds while it lays rows out. The crate's public contract does not name them.
use Rattle.std.specs.Prelude.{ℕ, ◌+◌, nat_le, nat_lt, ◌&&◌, if◌then◌else◌, List, [], ◌∷◌, ◌++◌, length}
use Rattle.rd_matrix.specs.declared.matrix.Entry.{Entry}
use Rattle.rd_rows.specs.Copies.{RowValues}

-- rows of the block that starts at a position, numbered, each as often copied as it was
abbrev pub placed : ℕ → ℕ → List RowValues → List Entry
placed start number [] = []
placed start number (r ∷ rs) = record { start = start; number = number; row = r } ∷ placed start (number + 1) rs

-- rows to which a row was added, where it is one of those from `first` on and there are fewer than `most`
abbrev pub with_row : ℕ → ℕ → List Entry → Entry → List Entry
with_row first most rows e = if nat_le first e.number && nat_lt (length rows) most then rows ++ e ∷ [] else rows
