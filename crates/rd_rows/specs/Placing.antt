-- How an element of a line comes to stand in a row.
use Rattle.std.specs.Prelude.{ℕ, ◌+◌, ◌-◌, ◌%◌, ◌==◌, ◌&&◌, ◌||◌, min, nat_lt, nat_le, not, Bool, true, false, if◌then◌else◌, List, [], ◌∷◌, Option, None, Some}
use Rattle.std.specs.List.{list_any}
use Rattle.rd_base.specs.Elements.{is_line_end}
use Rattle.rd_base.specs.Lists.{total}
use Rattle.rd_base.specs.declared.element.Element.{Element}
use Rattle.rd_base.specs.declared.element.Extent.{Extent}
use Rattle.rd_base.specs.declared.element.Extent.TheVariants.{Fixed, Tab, Column}
use Rattle.rd_base.specs.declared.element.Look.{Look}
use Rattle.rd_base.specs.declared.element.Look.TheVariants.{Blank, RowEnd, LineEnd}
use Rattle.rd_rows.specs.declared.spot.Placed.{Placed}
use Rattle.rd_rows.specs.declared.spot.Spot.{Spot}
use Rattle.rd_rows.specs.Shapes.{ShapeValues, room, truncates}

-- the columns of an extent at a column of the line: a tab reaches to its next stop, and a column that is passed is reached
abbrev pub width_at : Extent → ℕ → ℕ
width_at (Fixed n) column = n
width_at (Tab t) column = t - column % t
width_at (Column n) column = n - column

abbrev pub is_blank : Look → Bool
is_blank Blank = true
is_blank look = false

-- whether a row ends behind an element of this look
abbrev pub ends_row : Look → Bool
ends_row RowEnd = true
ends_row LineEnd = true
ends_row look = false

-- where a line begins
abbrev pub line_start : Spot
line_start = record { column = 0; used = 0; before = None }

-- the line goes on in another row, behind a prefix of so many columns
abbrev pub next_row : ℕ → Spot → Spot
next_row lead spot = record { column = spot.column; used = lead; before = spot.before }

-- the line goes on behind a row end
abbrev pub next_line : Spot → Spot
next_line spot = record { column = 0; used = 0; before = spot.before }

-- whether an element can stand in a row: an end can, and where lines are truncated each can; else where its columns fit the room,
-- and a stretch of blanks also where a column is left
abbrev pub fits : ShapeValues → Spot → Element → Bool
fits shape spot e =
    ends_row e.look
    || truncates shape
    || nat_le (spot.used + width_at e.extent spot.column) (room shape)
    || (is_blank e.look && nat_lt spot.used (room shape))

-- the columns that an element takes: a stretch of blanks is cut at the room, unless lines are truncated
abbrev pub columns_in : ShapeValues → Spot → Element → ℕ
columns_in shape spot e =
    if is_blank e.look && not (truncates shape)
    then min (width_at e.extent spot.column) (room shape - spot.used)
    else width_at e.extent spot.column

-- the elements of an item follow one another, so the first of them is the one before which another item's stands
abbrev pub is_item : Option ℕ → ℕ → Bool
is_item None item = false
is_item (Some before) item = before == item

abbrev pub placed_at : ShapeValues → Spot → Element → Placed
placed_at shape spot e = record {
  element = e;
  start = spot.used;
  columns = columns_in shape spot e;
  first = not (is_item spot.before e.origin.item);
}

-- where the element behind a placed one comes
abbrev pub behind : Spot → Placed → Spot
behind spot p = record {
  column = spot.column + p.columns;
  used = spot.used + p.columns;
  before = Some p.element.origin.item;
}

-- elements that are placed one behind the other, from a spot on
abbrev pub place_all : ShapeValues → Spot → List Element → List Placed
place_all shape spot [] = []
place_all shape spot (e ∷ es) =
    let p = placed_at shape spot e in
    p ∷ place_all shape (behind spot p) es

-- where the element behind all of these comes
abbrev pub behind_all : Spot → List Placed → Spot
behind_all spot [] = spot
behind_all spot (p ∷ ps) = behind_all (behind spot p) ps

abbrev pub has_line_end : List Placed → Bool
has_line_end ps = list_any (λ (p : Placed). is_line_end p.element.look) ps

-- the columns that elements take
abbrev pub columns_of : List Placed → ℕ
columns_of ps = total (λ p. p.columns) ps
