-- A maker of the rows of a line, and what its calls do.
use Rattle.std.specs.Prelude.{◌≡◌, ℕ, ◌+◌, Bool, true, false, List, [], ◌∷◌, Option, None, Some, Result, Ok, Err}
use Rattle.rd_base.specs.Elements.{columns_at_most}
use Rattle.rd_base.specs.declared.element.Element.{Element}
use Rattle.rd_base.specs.declared.memory.Memory.{Memory}
use Rattle.rd_rows.specs.declared.cutting.Cutting.{Cutting}
use Rattle.rd_rows.specs.Copies.{RowValues}
use Rattle.rd_rows.specs.Left.{MakerValues, IsLine, rows_behind}
use Rattle.rd_rows.specs.Rows.{RowMeaning, LaidRow, rows_of}
use Rattle.rd_rows.specs.Whole.{IsWhole, AreWhole}

-- Of a maker the layer above knows no more than these three: the rows that it is still to make, where these elements are left;
unfoldable pub rows_left : MakerValues → List Element → List LaidRow
rows_left m es = rows_behind m es

-- the column of the line that was reached, with the most columns that the elements which it holds can take;
unfoldable pub columns_held : MakerValues → ℕ
columns_held m = m.spot.column + columns_at_most m.held

-- whether a maker has placed the line end
unfoldable pub is_finished : MakerValues → Bool
is_finished m = m.finished

-- a maker that has made no row
pub record IsFresh (c : Cutting) (m : MakerValues) : Type 0 where
  pub rows : (es : List Element) → rows_left m es ≡ rows_of c es
  pub columns : columns_held m ≡ 0
  pub going_on : is_finished m ≡ false

-- what a maker asks of the elements that are left, until it has placed the line end
abbrev pub Asks : MakerValues → List Element → Type 0
Asks m es = is_finished m ≡ false → IsLine (columns_held m) es

-- the next row, where rows had to be made and are left; a step for each element placed in it
pub record MakesRow (row : RowMeaning) (m n : MakerValues) (es fs : List Element) (steps_before steps_after : ℕ) : Type 0 where
  pub steps_taken : ℕ
  pub row_is : rows_left m es ≡ record { row = row; weight = steps_taken } ∷ rows_left n fs
  pub steps : steps_after ≡ steps_before + steps_taken
  pub last : is_finished n ≡ row.ends_block
  pub over : is_finished n ≡ true → rows_left n fs ≡ []
  pub going_on : is_finished m ≡ false
  pub asks : Asks n fs

-- what a call for the next row does: it makes that row, or finds that all are made, or lacks memory
abbrev pub Makes : Result (Option RowValues) Memory → MakerValues → MakerValues → List Element → List Element → ℕ → ℕ → Type 0
Makes (Ok (Some row)) m n es fs s t = MakesRow row.shown m n es fs s t × (row.copies ≡ 0)
Makes (Ok None) m n es fs s t = (is_finished m ≡ true) × (rows_left m es ≡ []) × (n ≡ m) × (fs ≡ es) × (t ≡ s)
Makes (Err _) m n es fs s t = t ≡ s

-- where the rows that are left are whole, the next row is, and so are those behind it
abbrev pub MakesWhole : Result (Option RowValues) Memory → MakerValues → MakerValues → List Element → List Element → Type 0
MakesWhole (Ok (Some row)) m n es fs = (width : ℕ) → AreWhole width (rows_left m es) → IsWhole width row.shown × AreWhole width (rows_left n fs)
MakesWhole result m n es fs = Unit {0}
