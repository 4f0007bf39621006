-- The rows of all blocks, each with its place.
use Rattle.std.specs.Prelude.{ℕ, ◌+◌, List, [], ◌∷◌, map, flat_map}
use Rattle.rd_matrix.specs.declared.block.Block.{Block}
use Rattle.rd_matrix.specs.declared.matrix.Entry.{Entry}
use Rattle.rd_rows.specs.Rows.{RowMeaning}

-- a row with the start of its block and its number there, however often it was copied
pub record EntryMeaning : Type 0 where
  pub start : ℕ
  pub number : ℕ
  pub row : RowMeaning

abbrev pub shown_entry : Entry → EntryMeaning
shown_entry e = record { start = e.start; number = e.number; row = e.row.shown }

abbrev pub shown_entries : List Entry → List EntryMeaning
shown_entries es = map shown_entry es

-- a row as it is made, not copied yet
abbrev pub made_entry : EntryMeaning → Entry
made_entry e = record { start = e.start; number = e.number; row = record { shown = e.row; copies = 0 } }

-- the rows of a block that starts at a position, numbered
abbrev pub numbered : ℕ → ℕ → List RowMeaning → List EntryMeaning
numbered start number [] = []
numbered start number (r ∷ rs) = record { start = start; number = number; row = r } ∷ numbered start (number + 1) rs

abbrev pub entries_of : (Block → List RowMeaning) → Block → List EntryMeaning
entries_of rows b = numbered b.start 0 (rows b)

-- the rows of all blocks, in order
abbrev pub all_rows : (Block → List RowMeaning) → List Block → List EntryMeaning
all_rows rows bs = flat_map (entries_of rows) bs
