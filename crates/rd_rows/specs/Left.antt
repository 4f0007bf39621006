-- What is left of a line whose rows are made one at a time.
use Rattle.std.specs.Prelude.{ℕ, ◌+◌, ◌^◌, ◌<◌, Bool, if◌then◌else◌, IsTrue, List, [], ◌++◌, length}
use Rattle.rd_base.specs.Elements.{AreSound, columns_at_most, ends_once}
use Rattle.rd_base.specs.declared.element.Element.{Element}
use Rattle.rd_rows.specs.declared.cutting.Cutting.{Cutting}
use Rattle.rd_rows.specs.declared.spot.Placed.{Placed}
use Rattle.rd_rows.specs.declared.spot.Spot.{Spot}
use Rattle.rd_rows.specs.Rows.{LaidRow, rows_within}

-- what is left of a line at a column: sound elements, of which the last and no other is the line end, in fewer than 2^63 columns
pub record IsLine (column : ℕ) (es : List Element) : Type 0 where
  pub sound : AreSound es
  pub end : IsTrue (ends_once es)
  pub columns : column + columns_at_most es < 2 ^ 63

-- a line that is being cut: how, where the next row begins, whether it goes on with the line behind no row end, the elements that wait
-- for it, and whether the line end was placed
pub record MakerValues : Type 0 where
  pub cutting : Cutting
  pub spot : Spot
  pub continued : Bool
  pub held : List Element
  pub finished : Bool

-- the prefix of the next row
abbrev pub lead_of : MakerValues → List Placed
lead_of m = if m.continued then m.cutting.wrap else m.cutting.first

-- the rows of the elements that wait and these
abbrev pub rows_behind : MakerValues → List Element → List LaidRow
rows_behind m es = if m.finished then [] else rows_within (length (m.held ++ es)) m.cutting (lead_of m) m.spot (m.held ++ es)
