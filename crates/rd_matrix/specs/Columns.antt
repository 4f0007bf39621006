-- Where an item that covers a position begins in a row.
use Rattle.std.specs.Prelude.{ℕ, ◌+◌, ◌-◌, Bool, if◌then◌else◌, List, length, Option, find}
use Rattle.std.specs.Option.{option_map}
use Rattle.rd_base.specs.Lists.{is_between}
use Rattle.rd_rows.specs.declared.begin.Begin.{Begin}
use Rattle.rd_rows.specs.Rows.{RowMeaning}

-- whether an item of a block that begins at a position covers a point
abbrev pub covers : ℕ → ℕ → Begin → Bool
covers start point b = is_between (start + b.from) (start + b.to) point

-- the column in which the first element of an item is shown: that of its row as it is read, from the right edge where the row is
-- read from there
abbrev pub shown_column : RowMeaning → ℕ → ℕ
shown_column row column = if row.reversed then length row.cells - 1 - column else column

-- the column of the first item that covers a point among those that begin in a row
abbrev pub column_in : ℕ → ℕ → List Begin → Option ℕ
column_in start point bs = option_map (λ b. b.column) (find (covers start point) bs)
