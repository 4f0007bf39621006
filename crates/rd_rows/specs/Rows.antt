-- The rows into which a line is cut, from all of its elements.
use Rattle.std.specs.Prelude.{ℕ, zero, suc, ◌+◌, ◌-◌, ◌==◌, ◌&&◌, min, max, nat_lt, nat_le, Bool, if◌then◌else◌, List, [], ◌∷◌, ◌++◌, length, drop, flat_map}
use Rattle.rd_base.specs.Faces.{plain}
use Rattle.rd_base.specs.Glyphs.{is_space, blanks, look_cells}
use Rattle.rd_base.specs.Lists.{total}
use Rattle.rd_base.specs.declared.cell.Cell.{Cell}
use Rattle.rd_base.specs.declared.cell.Cell.TheVariants.{Blank, First}
use Rattle.rd_base.specs.declared.cell.Glyph.{Glyph}
use Rattle.rd_base.specs.declared.element.Element.{Element}
use Rattle.rd_rows.specs.declared.begin.Begin.{Begin}
use Rattle.rd_rows.specs.declared.cutting.Cutting.{Cutting}
use Rattle.rd_rows.specs.declared.spot.Placed.{Placed}
use Rattle.rd_rows.specs.declared.spot.Spot.{Spot}
use Rattle.rd_rows.specs.Shapes.{ShapeValues, room, truncates}
use Rattle.rd_rows.specs.Mirrors.{mirror_image}
use Rattle.rd_rows.specs.Cuts.{cut_row}
use Rattle.rd_rows.specs.Placing.{line_start, next_row, next_line, place_all, behind_all, has_line_end, columns_of}
use Rattle.rd_rows.specs.Prefixes.{prefix_of}

-- what is seen of a row, whoever made it
pub record RowMeaning : Type 0 where
  pub cells : List Cell
  pub begins : List Begin
  pub reversed : Bool
  pub ends_block : Bool

-- a row of a line, and how many elements were placed in it
pub record LaidRow : Type 0 where
  pub row : RowMeaning
  pub weight : ℕ

-- what is seen of an element from one column up to another: all of it, or blanks of its face where only a part lies there
abbrev pub seen : ℕ → ℕ → Placed → List Cell
seen from to p =
    if nat_le from p.start && nat_le (p.start + p.columns) to
    then look_cells p.columns p.element.look p.element.face
    else blanks (min to (p.start + p.columns) - max from p.start) p.element.face

-- the cell of a mark, which stands in the plain face
abbrev pub mark : Glyph → Cell
mark g = if is_space g then Blank plain else First g plain

-- the first column of a row that is seen: where it is scrolled sideways, a mark has the place of the one before
abbrev pub first_seen : ShapeValues → ℕ
first_seen shape = if nat_lt 0 shape.hscroll then shape.hscroll + 1 else 0

-- what is seen of an element in the window
abbrev pub seen_in : ShapeValues → Placed → List Cell
seen_in shape p = seen (first_seen shape) (shape.hscroll + room shape) p

-- the mark of a row that is scrolled sideways and has any column
abbrev pub front_mark : Cutting → ℕ → List Cell
front_mark c used = if nat_lt 0 c.shape.hscroll && nat_lt 0 used then mark c.truncation ∷ [] else []

-- what no element fills is blank and plain
abbrev pub filled : ℕ → List Cell → List Cell
filled width cells = cells ++ blanks (width - length cells) plain

-- the last column has the mark of a row whose line goes on
abbrev pub last_cell : Cutting → ℕ → Bool → Cell
last_cell c used continued =
    if truncates c.shape
    then if nat_lt (c.shape.hscroll + room c.shape) used then mark c.truncation else Blank plain
    else if continued then mark c.continuation else Blank plain

-- an item begins in the row that has its first element, in that element's column, held within the window
abbrev pub begin_of : ShapeValues → Placed → List Begin
begin_of shape p =
    if p.first
    then record {
      from = p.element.origin.from;
      to = p.element.origin.to;
      column = min (p.start - shape.hscroll) (room shape);
    } ∷ []
    else []

-- a row that is read from its right edge is shown as its mirror image
abbrev pub from_edge : Bool → List Cell → List Cell
from_edge reversed cells = if reversed then mirror_image cells else cells

-- the row of these cells and items, which take so many columns: before them the truncation mark where the row is scrolled sideways;
-- continued where it asks for the mark of a row whose line goes on
abbrev pub finished_row : Cutting → ℕ → List Cell → List Begin → Bool → Bool → RowMeaning
finished_row c used cells begins continued ends_block = record {
  cells = from_edge c.reversed (filled (room c.shape) (front_mark c used ++ cells) ++ last_cell c used continued ∷ []);
  begins = begins;
  reversed = c.reversed;
  ends_block = ends_block;
}

-- the row of these placed elements, which take so many columns: it shows those that are seen, and has each item that begins among them,
-- seen or not; continued where it asks for the mark of a row whose line goes on
abbrev pub row_of : Cutting → ℕ → Bool → List Placed → RowMeaning
row_of c used continued ps = finished_row c used (flat_map (seen_in c.shape) ps) (flat_map (begin_of c.shape) ps) continued (has_line_end ps)

abbrev pub laid : Cutting → ℕ → Bool → List Placed → LaidRow
laid c used continued ps = record { row = row_of c used continued ps; weight = length ps }

-- the rows of elements, at most so many: each begins with its prefix, the first with this one, and has those elements of the line
-- for which it has room; the line goes on behind a row end with the prefix of first rows, and else with that of other rows
abbrev pub rows_within : ℕ → Cutting → List Placed → Spot → List Element → List LaidRow
rows_within zero c lead spot es = []
rows_within (suc n) c lead spot [] = []
rows_within (suc n) c lead spot (e ∷ es) =
    let start = next_row (columns_of lead) spot in
    let cut = cut_row c.shape start (e ∷ es) in
    let ps = place_all c.shape start cut.elements in
    let end = behind_all start ps in
    laid c end.used cut.marked (lead ++ ps)
    ∷ rows_within n c (if cut.ended then c.first else c.wrap) (if cut.ended then next_line end else end) (drop (length cut.elements) (e ∷ es))

-- the rows of a line, of which each has at least one of its elements
abbrev pub rows_of : Cutting → List Element → List LaidRow
rows_of c es = rows_within (length es) c c.first line_start es

-- how a line of a paragraph of this base level is cut, with the elements of the prefixes of its first row and of its other
-- rows, and the glyphs that mark a truncated and a continued row
abbrev pub cutting_of : ShapeValues → ℕ → List Element → List Element → Glyph → Glyph → Cutting
cutting_of shape base first wrap truncation continuation = record {
  shape = shape;
  reversed = base == 1;
  first = prefix_of shape first;
  wrap = prefix_of shape wrap;
  truncation = truncation;
  continuation = continuation;
}

-- how many elements were placed in these rows
abbrev pub weight_of : List LaidRow → ℕ
weight_of rs = total (λ r. r.weight) rs
