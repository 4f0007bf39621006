-- What a screen shows.
use Rattle.std.specs.Prelude.{◌≡◌, ℕ, ◌+◌, ◌<◌, ◌≤◌, List, [], ◌∷◌, ◌++◌, length, take, drop, All, replicate, slice_index_or, slice_set}
use Rattle.rd_base.specs.Cells.{row_at}
use Rattle.rd_base.specs.declared.limits.TheConstants.{FRAME_COLUMNS, FRAME_ROWS}
use Rattle.rd_base.specs.Faces.{plain}
use Rattle.rd_base.specs.Glyphs.{IsRowAfter}
use Rattle.rd_base.specs.declared.cell.Cell.{Cell}
use Rattle.rd_base.specs.declared.cell.Cell.TheVariants.{Blank}

-- the rows of cells, from the top, and the cursor's row and column, from 0
pub record Picture : Type 0 where
  pub rows : List (List Cell)
  pub row : ℕ
  pub column : ℕ

-- a cell that shows nothing, in the plain face
abbrev pub blank : Cell
blank = Blank plain

abbrev pub blank_row : ℕ → List Cell
blank_row width = replicate width blank

abbrev pub blank_picture : ℕ → ℕ → Picture
blank_picture width height = record { rows = replicate height (blank_row width); row = 0; column = 0 }

-- how many columns the first row has
abbrev pub width_of : {A : Type 0} → List (List A) → ℕ
width_of [] = 0
width_of (row ∷ rows) = length row

-- each row has so many columns
abbrev pub IsGrid : {A : Type 0} → ℕ → List (List A) → Type 0
IsGrid width rows = All (λ row. length row ≡ width) rows

-- a picture has so many columns and rows, with the cursor on them
pub record IsOfSize (width height : ℕ) (picture : Picture) : Type 0 where
  pub rows : length picture.rows ≡ height
  pub each : IsGrid width picture.rows
  pub row : picture.row < height
  pub column : picture.column < width

-- how many columns and rows a screen may have, or a terminal
pub record IsFrameSize (width height : ℕ) : Type 0 where
  pub some_columns : 1 ≤ width
  pub columns : width ≤ FRAME_COLUMNS
  pub some_rows : 1 ≤ height
  pub rows : height ≤ FRAME_ROWS

-- what a screen may be: at most 400 columns and 200 rows
pub record IsScreen (picture : Picture) : Type 0 where
  pub size : IsOfSize (width_of picture.rows) (length picture.rows) picture
  pub wide : width_of picture.rows ≤ FRAME_COLUMNS
  pub tall : length picture.rows ≤ FRAME_ROWS

-- the cell at a place
abbrev pub cell_at : List (List Cell) → ℕ → ℕ → Cell
cell_at rows row column = slice_index_or (row_at rows row) column blank

-- a row with these cells in place of its own from a column on
abbrev pub written_over : {A : Type 0} → ℕ → List A → List A → List A
written_over column cells row = take column row ++ (cells ++ drop (column + length cells) row)

-- the rows with these cells in place of a row's own from a column on
abbrev pub with_cells : {A : Type 0} → List (List A) → ℕ → ℕ → List A → List (List A)
with_cells rows row column cells = slice_set rows row (written_over column cells (row_at rows row))

-- the rows with another cell at a place
abbrev pub with_cell : {A : Type 0} → List (List A) → ℕ → ℕ → A → List (List A)
with_cell rows row column cell = slice_set rows row (slice_set (row_at rows row) column cell)

-- a picture in which each glyph stands whole
pub record IsWellFormed (picture : Picture) : Type 0 where
  pub glyphs : All (λ row. IsRowAfter 0 row) picture.rows
  pub row : picture.row < length picture.rows
  pub column : picture.column < width_of picture.rows
