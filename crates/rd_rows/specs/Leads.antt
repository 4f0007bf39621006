-- What stands before the elements of a line.
use Rattle.std.specs.Prelude.{◌≡◌, false, IsTrue, List}
use Rattle.rd_rows.specs.declared.cutting.Cutting.{Cutting}
use Rattle.rd_rows.specs.declared.spot.Placed.{Placed}
use Rattle.rd_rows.specs.Placing.{has_line_end}
use Rattle.rd_rows.specs.Prefixes.{IsLead, begins_none}

-- rows can begin with both of these prefixes
pub record HasLeads (c : Cutting) : Type 0 where
  pub first : IsLead c.first
  pub wrap : IsLead c.wrap

-- none of these ends the line or begins an item of it
pub record IsQuiet (ps : List Placed) : Type 0 where
  pub on : has_line_end ps ≡ false
  pub items : IsTrue (begins_none ps)

-- neither prefix ends the line or begins an item of it
pub record HasQuietLeads (c : Cutting) : Type 0 where
  pub first : IsQuiet c.first
  pub wrap : IsQuiet c.wrap
