-- The cells of a window's margins: a line's number, and behind it a string.
use Rattle.std.specs.Prelude.{◌≡◌, ℕ, zero, suc, ◌-◌, All, nat_le, ◌==◌, if◌then◌else◌, List, [], ◌∷◌, ◌++◌, length, map, replicate, Option, None, Some, decimal}
use Rattle.rd_base.specs.Cells.{IsColoured, single}
use Rattle.rd_base.specs.Faces.{plain}
use Rattle.rd_base.specs.Glyphs.{IsRowAfter, blanks}
use Rattle.rd_base.specs.declared.cell.Cell.{Cell}
use Rattle.rd_base.specs.declared.cell.Cell.TheVariants.{Blank, First}
use Rattle.rd_glyphs.specs.Lines.{plain_cells}
use Rattle.rd_ucd.specs.declared.spans.Span.{Span}
use Rattle.rd_margins.specs.declared.rows.Widths.{Widths}

-- a character of one column, in the plain face
abbrev pub sign : ℕ → Cell
sign c = First (single c 1) plain

-- digits at the right of so many columns; where there are more digits, a plus sign in each column
abbrev pub digit_cells : ℕ → List ℕ → List Cell
digit_cells columns digits =
    if nat_le (length digits) columns
    then blanks (columns - length digits) plain ++ map sign digits
    else replicate columns (sign 43)

-- the number of a line in so many columns, of which the last is always blank; where there is no line all are blank
abbrev pub number_cells : ℕ → Option ℕ → List Cell
number_cells columns None = blanks columns plain
number_cells zero (Some line) = []
number_cells (suc columns) (Some line) = digit_cells columns (decimal line) ++ Blank plain ∷ []

-- the margins beside a row: the number of a line, and a text as a plain line, of which is cut what does not fit
abbrev pub margin_cells : List Span → Widths → Option ℕ → List ℕ → List Cell
margin_cells classes widths line text = number_cells widths.numbers line ++ plain_cells classes plain widths.strings text

-- the margins beside a row of a block: the number of the line of the block's first position and the text of the margin string
-- there, which is empty where there is no string, beside the block's first row; beside every other row blanks
abbrev pub row_margin : List Span → Widths → ℕ → ℕ → List ℕ → List Cell
row_margin classes widths row line text =
    if row == 0 then margin_cells classes widths (Some line) text else margin_cells classes widths None []

-- cells of so many columns in which each glyph stands whole and each colour is in its range
pub record IsMargin (columns : ℕ) (cells : List Cell) : Type 0 where
  pub count : length cells ≡ columns
  pub whole : IsRowAfter 0 cells
  pub coloured : All IsColoured cells
