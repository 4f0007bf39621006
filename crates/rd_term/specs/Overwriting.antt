-- Cells that are put into a row in place of others.
use Rattle.std.specs.Prelude.{ℕ, ◌+◌, ◌-◌, Bool, true, false, List, ◌++◌, length, take, drop, replicate, Option, None, Some, slice_index_or}
use Rattle.std.specs.List.{prefix_len}
use Rattle.rd_base.specs.declared.cell.Cell.{Cell}
use Rattle.rd_base.specs.declared.cell.Cell.TheVariants.{Rest}
use Rattle.rd_term.specs.Walks.{back_while}

-- a later column of a character
abbrev pub is_later : Option Cell → Bool
is_later (Some Rest) = true
is_later cell = false

-- the first column of the character that has this column
abbrev pub first_column : List (Option Cell) → ℕ → ℕ
first_column row column = back_while (λ column. is_later (slice_index_or row column None)) column

-- how many later columns of a character cells begin with
abbrev pub later_columns : List (Option Cell) → ℕ
later_columns cells = prefix_len is_later cells

-- a row with these cells from a column on; what they leave of characters that they cut becomes unknown
abbrev pub overwritten : ℕ → List (Option Cell) → List (Option Cell) → List (Option Cell)
overwritten column cells row =
    let begin = first_column row column in
    let end = column + length cells in
    let left = later_columns (drop end row) in
    take begin row ++ (replicate (column - begin) None ++ (cells ++ (replicate left None ++ drop (end + left) row)))
