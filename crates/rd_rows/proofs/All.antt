-- All rows that are left of a line.
use Rattle.std.proofs.Common.{◌≡◌, ℕ, ◌+◌, ◌<◌, ◌^◌, List, ◌++◌, length}
use Rattle.rd_base.specs.declared.element.Element.{Element}
use Rattle.rd_rows.specs.Copies.{RowValues, made_rows}
use Rattle.rd_rows.specs.Left.{MakerValues}
use Rattle.rd_rows.specs.Lines.{rows_left, Asks}
use Rattle.rd_rows.specs.Rows.{weight_of}

-- the rows that were made, and those that are left
pub record Collects (m : MakerValues) (es : List Element) (s : ℕ) (n : MakerValues) (fs : List Element) (t : ℕ) (rows : List RowValues) : Type 0 where
  pub all : rows ++ made_rows (rows_left n fs) ≡ made_rows (rows_left m es)
  pub steps : t + weight_of (rows_left n fs) ≡ s + weight_of (rows_left m es)
  pub asks : Asks n fs
  pub few : length rows < 2 ^ 32
