-- Where an item that covers a position begins among the rows of a window.
use Rattle.std.specs.Prelude.{ℕ, ◌+◌, List, [], ◌∷◌, Option, None, Some}
use Rattle.std.specs.Option.{option_map}
use Rattle.rd_matrix.specs.Columns.{column_in, shown_column}
use Rattle.rd_matrix.specs.Entries.{EntryMeaning}

-- a place in the first row, or in a later one
abbrev pub or_below : Option ℕ → Option (ℕ × ℕ) → Option (ℕ × ℕ)
or_below (Some column) below = Some (0, column)
or_below None None = None
or_below None (Some place) = Some (place.0 + 1, place.1)

-- the column in which the item that covers a point begins, as it is shown
abbrev pub column_shown : ℕ → EntryMeaning → Option ℕ
column_shown point e = option_map (shown_column e.row) (column_in e.start point e.row.begins)

-- the row and the column in which the item that covers a point begins, and None where no row holds its beginning
abbrev pub cursor_in : ℕ → List EntryMeaning → Option (ℕ × ℕ)
cursor_in point [] = None
cursor_in point (e ∷ es) = or_below (column_shown point e) (cursor_in point es)
