-- Where two rows differ, as the words of their cells tell it.
use Rattle.std.specs.Prelude.{ℕ, ◌+◌, ◌/◌, if◌then◌else◌, List, All, Option, None, Some}
use Rattle.std.specs.List.{flat_map}
use Rattle.rd_lanes.specs.Kernels.{first_difference as first_word, last_difference as last_word}
use Rattle.rd_base.specs.Cells.{words_of, AreOnlyOf, IsColoured}
use Rattle.rd_base.specs.declared.cell.Cell.{Cell}
use Rattle.rd_update.specs.Updates.{first_difference, end_of_differences, differs}
use Rattle.rd_update.specs.declared.span.Columns.{Columns}

-- the words of a row's cells, in order
abbrev pub row_words : List Cell → List ℕ
row_words cells = flat_map words_of cells

-- cells that their words tell, with colours in their range
abbrev pub AreTold : List Cell → Type 0
AreTold cells = All (λ cell. IsColoured cell × AreOnlyOf cell (words_of cell)) cells

-- the columns from the first to the last one at which two rows differ
abbrev pub differing_columns : List Cell → List Cell → Option Columns
differing_columns old new =
    if differs old new then Some (record { from = first_difference old new; end = end_of_differences old new }) else None

-- the columns from that of the first to that of the last of the words at which two rows differ, three words for each cell
abbrev pub columns_from : Option ℕ → Option ℕ → Option Columns
columns_from (Some first) (Some last) = Some (record { from = first / 3; end = last / 3 + 1 })
columns_from _ _ = None

abbrev pub columns_of_words : List ℕ → List ℕ → Option Columns
columns_of_words old new = columns_from (first_word old new) (last_word old new)
