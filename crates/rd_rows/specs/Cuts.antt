-- Which elements of a line stand in a row.
use Rattle.std.specs.Prelude.{Bool, true, false, not, ◌&&◌, ◌||◌, if◌then◌else◌, List, [], ◌∷◌}
use Rattle.std.specs.List.{list_any}
use Rattle.rd_base.specs.Glyphs.{is_space}
use Rattle.rd_base.specs.declared.element.Element.{Element}
use Rattle.rd_base.specs.declared.element.Look.{Look}
use Rattle.rd_base.specs.declared.element.Look.TheVariants.{Blank, Glyph as Shown}
use Rattle.rd_rows.specs.declared.spot.Spot.{Spot}
use Rattle.rd_rows.specs.Placing.{ends_row, fits, placed_at, behind}
use Rattle.rd_rows.specs.Shapes.{ShapeValues, is_word}

-- a line can be wrapped behind a stretch of blanks, and behind a space without marks
abbrev pub is_break : Look → Bool
is_break Blank = true
is_break (Shown g) = is_space g
is_break look = false

abbrev pub has_break : List Element → Bool
has_break es = list_any (λ (e : Element). is_break e.look) es

-- the elements up to the last break, and none where there is no break
abbrev pub up_to_break : List Element → List Element
up_to_break [] = []
up_to_break (e ∷ es) = if is_break e.look || has_break es then e ∷ up_to_break es else []

-- whether one of the elements ends a row
abbrev pub ends_some : List Element → Bool
ends_some es = list_any (λ (e : Element). ends_row e.look) es

-- the elements for which a row has room from a spot on: up to one that ends the row, or before one that does not fit
abbrev pub fitting : ShapeValues → Spot → List Element → List Element
fitting shape spot [] = []
fitting shape spot (e ∷ es) =
    if fits shape spot e
    then e ∷ (if ends_row e.look then [] else fitting shape (behind spot (placed_at shape spot e)) es)
    else []

-- the elements for which a row has room that begins at a spot. The first of them stands there in any case: each sound element
-- fits behind a prefix in ten columns
abbrev pub room_for : ShapeValues → Spot → List Element → List Element
room_for shape spot [] = []
room_for shape spot (e ∷ es) =
    e ∷ (if ends_row e.look then [] else fitting shape (behind spot (placed_at shape spot e)) es)

-- the elements of a line that stand in a row, whether the last of them ends it, and whether it ends with the mark of a row whose
-- line goes on
pub record RowCut : Type 0 where
  pub elements : List Element
  pub ended : Bool
  pub marked : Bool

-- whether a row for which these elements have room is left behind its last break: where lines are wrapped between words
abbrev pub is_wrapped : ShapeValues → List Element → Bool
is_wrapped shape es = is_word shape.wrap && has_break es && not (ends_some es)

-- how a row that has room for these elements is cut
abbrev pub cut_of : ShapeValues → List Element → RowCut
cut_of shape row = record {
  elements = if is_wrapped shape row then up_to_break row else row;
  ended = ends_some row;
  marked = not (ends_some row) && not (is_wrapped shape row);
}

-- how the row that begins at a spot is cut
abbrev pub cut_row : ShapeValues → Spot → List Element → RowCut
cut_row shape spot es = cut_of shape (room_for shape spot es)
