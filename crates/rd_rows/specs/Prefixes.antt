-- Prefixes, which stand before the elements of a line in its rows.
use Rattle.std.specs.Prelude.{◌≡◌, ℕ, ◌+◌, ◌/◌, ◌≤◌, nat_le, not, Bool, false, if◌then◌else◌, IsTrue, List, [], ◌∷◌}
use Rattle.std.specs.List.{list_all}
use Rattle.rd_base.specs.declared.limits.TheConstants.{PREFIX_COLUMNS}
use Rattle.rd_base.specs.declared.element.Element.{Element}
use Rattle.rd_base.specs.declared.element.Look.{Look}
use Rattle.rd_base.specs.declared.element.Look.TheVariants.{Glyph as Shown}
use Rattle.rd_base.specs.Elements.{AreSound}
use Rattle.rd_rows.specs.declared.spot.Placed.{Placed}
use Rattle.rd_rows.specs.Placing.{width_at, ends_row, has_line_end, columns_of}
use Rattle.rd_rows.specs.Shapes.{ShapeValues}

-- the elements of a prefix from one of its columns on, as far as they fit whole in so many columns; in none of them an item of
-- the line begins
abbrev pub fitted : ℕ → ℕ → List Element → List Placed
fitted limit column [] = []
fitted limit column (e ∷ es) =
    let p : Placed = record { element = e; start = column; columns = width_at e.extent column; first = false } in
    if nat_le (column + p.columns) limit then p ∷ fitted limit (column + p.columns) es else []

-- a prefix has half of the window's columns
abbrev pub prefix_of : ShapeValues → List Element → List Placed
prefix_of shape es = fitted (shape.width / 2) 0 es

-- whether no element ends a row
abbrev pub ends_none : List Element → Bool
ends_none es = list_all (λ (e : Element). not (ends_row e.look)) es

-- what may stand in a prefix: sound elements of which none ends a row
pub record IsPrefix (es : List Element) : Type 0 where
  pub sound : AreSound es
  pub on : IsTrue (ends_none es)

-- a glyph stands in all of its columns
abbrev pub FillsColumns : Look → ℕ → Type 0
FillsColumns (Shown g) columns = (columns ≡ g.width) × (1 ≤ columns)
FillsColumns look columns = Unit {0}

-- elements that stand one behind the other, from one column up to another
abbrev pub StandFrom : ℕ → List Placed → ℕ → Type 0
StandFrom from [] to = from ≡ to
StandFrom from (p ∷ ps) to = (p.start ≡ from) × FillsColumns p.element.look p.columns × StandFrom (from + p.columns) ps to

-- whether no item of the line begins
abbrev pub begins_none : List Placed → Bool
begins_none ps = list_all (λ (p : Placed). not p.first) ps

-- a row can begin with these: they stand in at most 200 columns from the first on, and none ends the line or begins an item of it
pub record IsLead (ps : List Placed) : Type 0 where
  pub stand : StandFrom 0 ps (columns_of ps)
  pub short : columns_of ps ≤ PREFIX_COLUMNS
  pub on : has_line_end ps ≡ false
  pub items : IsTrue (begins_none ps)
