-- Which position a cell shows.
use Rattle.std.specs.Prelude.{◌≡◌, ℕ, ◌+◌, ◌^◌, ◌<◌, ◌==◌, ◌&&◌, nat_lt, nat_le, Bool, if◌then◌else◌, List, [], ◌∷◌, ◌++◌, length, slice_get, All, Option, None, Some, option_and_then}
use Rattle.std.specs.Option.{option_map}
use Rattle.rd_matrix.specs.Columns.{shown_column}
use Rattle.rd_matrix.specs.Entries.{EntryMeaning}
use Rattle.rd_matrix.specs.Sources.{SourceValues, rows_at}
use Rattle.rd_rows.specs.declared.begin.Begin.{Begin}
use Rattle.rd_rows.specs.Rows.{RowMeaning}
use Rattle.rd_rows.specs.Shapes.{ShapeValues}

-- whether an item covers a position
abbrev pub covers_some : Begin → Bool
covers_some b = nat_lt b.from b.to

-- whether an item covers a position and begins in a reading column or before it
abbrev pub reaches : ℕ → Begin → Bool
reaches column b = covers_some b && nat_le b.column column

-- the one of two items whose column is greater, and the first of two in one column
abbrev pub nearer : Option Begin → Option Begin → Option Begin
nearer None other = other
nearer (Some b) None = Some b
nearer (Some b) (Some other) = if nat_le other.column b.column then Some b else Some other

-- the item of a reading column: among the items of the row that cover a position, the first of those whose column is the
-- greatest that is not above it
abbrev pub item_at : ℕ → List Begin → Option Begin
item_at column [] = None
item_at column (b ∷ bs) = nearer (if reaches column b then Some b else None) (item_at column bs)

-- the item of a cell of a row, and None where the row has no such cell; the reading column of a cell is its own column, and in a row
-- that is read from the right edge it lies as far from there
abbrev pub item_of_cell : RowMeaning → ℕ → Option Begin
item_of_cell row column = if nat_lt column (length row.cells) then item_at (shown_column row column) row.begins else None

-- the least position that the item of a cell covers
abbrev pub least_at : EntryMeaning → ℕ → Option ℕ
least_at e column = option_map (λ b. e.start + b.from) (item_of_cell e.row column)

-- the least position that the item of a cell covers, by row and column, and None where there is no such row
abbrev pub hit_in : List EntryMeaning → ℕ → ℕ → Option ℕ
hit_in es row column = option_and_then (λ e. least_at e column) (slice_get es row)

-- an item of a row whose block begins at a position, up to the end of which each place fits a position
abbrev pub Fits : ℕ → Begin → Type 0
Fits start b = start + b.to < 2 ^ 32

-- each item that begins in a row, or in any of these rows, ends at a position
abbrev pub AreInRow : EntryMeaning → Type 0
AreInRow e = All (Fits e.start) e.row.begins

abbrev pub AreInPositions : List EntryMeaning → Type 0
AreInPositions es = All AreInRow es

-- rows of a source at a shape, one behind the other
pub record AreAdjacentRows (m : SourceValues) (shape : ShapeValues) (es : List EntryMeaning) : Type 0 where
  pub above : List EntryMeaning
  pub below : List EntryMeaning
  pub rows : rows_at m shape ≡ above ++ (es ++ below)

-- whether an item that covers a position begins in a reading column
abbrev pub begins_at : ℕ → Begin → Bool
begins_at column b = covers_some b && (b.column == column)
