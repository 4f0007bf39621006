-- Lines that the worked examples speak of.
use Rattle.std.specs.Prelude.{ℕ, ◌+◌, List, [], ◌∷◌, ◌++◌, map}
use Rattle.rd_base.specs.Faces.{plain}
use Rattle.rd_base.specs.Cells.{single}
use Rattle.rd_base.specs.declared.cell.Cell.{Cell}
use Rattle.rd_base.specs.declared.element.Element.{Element}
use Rattle.rd_base.specs.declared.element.Extent.{Extent}
use Rattle.rd_base.specs.declared.element.Extent.TheVariants.{Fixed, Tab, Column}
use Rattle.rd_base.specs.declared.element.Look.{Look}
use Rattle.rd_base.specs.declared.element.Look.TheVariants.{Blank, Glyph, RowEnd, LineEnd}
use Rattle.rd_base.specs.declared.settings.Wrap.TheVariants.{Truncate, Continue, Word}
use Rattle.rd_rows.specs.declared.begin.Begin.{Begin}
use Rattle.rd_rows.specs.Shapes.{ShapeValues}
use Rattle.rd_base.specs.Glyphs.{glyph_cells}
use Rattle.rd_rows.specs.Rows.{LaidRow, cutting_of, rows_of}

-- the element of one character: the item, which covers the position at its own number
abbrev pub item_element : ℕ → Extent → Look → Element
item_element item extent look = record {
  extent = extent;
  look = look;
  face = plain;
  origin = record { item = item; from = item; to = item + 1 };
}

abbrev pub letter : ℕ → ℕ → Element
letter item code = item_element item (Fixed 1) (Glyph (single code 1))

abbrev pub wide : ℕ → ℕ → ℕ → Element
wide item code columns = item_element item (Fixed columns) (Glyph (single code columns))

abbrev pub tab : ℕ → Element
tab item = item_element item (Tab 8) Blank

-- an element for each of these letters, which are the items from this one on
abbrev pub letters : ℕ → List ℕ → List Element
letters item [] = []
letters item (c ∷ cs) = letter item c ∷ letters (item + 1) cs

abbrev pub line_end : ℕ → List Element
line_end item = item_element item (Fixed 0) LineEnd ∷ []

abbrev pub row_end : ℕ → Element
row_end item = item_element item (Fixed 0) RowEnd

-- blanks up to a column
abbrev pub stretch : ℕ → ℕ → Element
stretch item column = item_element item (Column column) Blank

-- so many blanks
abbrev pub spaces : ℕ → ℕ → Element
spaces item columns = item_element item (Fixed columns) Blank

-- twelve columns, in which lines are continued, truncated, or cut at words
abbrev pub twelve_continued : ShapeValues
twelve_continued = record { width = 12; wrap = Continue; hscroll = 0 }

abbrev pub twelve_truncated : ShapeValues
twelve_truncated = record { width = 12; wrap = Truncate; hscroll = 0 }

abbrev pub by_words : ShapeValues
by_words = record { width = 12; wrap = Word; hscroll = 0 }

-- a shape of five columns, scrolled sideways by so many
abbrev pub cut_at : ℕ → ShapeValues
cut_at columns = record { width = 5; wrap = Truncate; hscroll = columns }

-- the rows of elements, cut with the marks $ and \, without a prefix
abbrev pub rows : ShapeValues → List Element → List LaidRow
rows shape es = rows_of (cutting_of shape 0 [] [] (single 36 1) (single 92 1)) es

-- the letters of a prefix
abbrev pub prefix : List ℕ → List Element
prefix cs = map (λ c. record {
  extent = Fixed 1;
  look = Glyph (single c 1);
  face = plain;
  origin = record { item = 4294967295; from = 0; to = 0 };
}) cs

-- the rows of elements behind these letters in the first row and in the others
abbrev pub rows_with : ShapeValues → List ℕ → List ℕ → List Element → List LaidRow
rows_with shape first wrap es = rows_of (cutting_of shape 0 (prefix first) (prefix wrap) (single 36 1) (single 92 1)) es

-- the rows of elements, read from the right edge, with the marks $ and /
abbrev pub rows_reversed : ShapeValues → List Element → List LaidRow
rows_reversed shape es = rows_of (cutting_of shape 1 [] [] (single 36 1) (single 47 1)) es

-- the cells of plain characters of one column
abbrev pub text : List ℕ → List Cell
text [] = []
text (c ∷ cs) = glyph_cells 1 (single c 1) plain ++ text cs

abbrev pub cells : List LaidRow → List (List Cell)
cells rs = map (λ r. r.row.cells) rs

abbrev pub weights : List LaidRow → List ℕ
weights rs = map (λ r. r.weight) rs

abbrev pub begins : List LaidRow → List (List Begin)
begins rs = map (λ r. r.row.begins) rs

-- an item that covers one position
abbrev pub at : ℕ → ℕ → Begin
at from column = record { from = from; to = from + 1; column = column }
