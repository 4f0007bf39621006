-- The text of a dump.
use Rattle.std.specs.Prelude.{ℕ, ◌+◌, ◌-◌, ◌||◌, Bool, false, if◌then◌else◌, List, [], ◌∷◌, ◌++◌, Option, None, Some, is_some, codes}
use Rattle.std.specs.Fmt.{decimal}
use Rattle.std.specs.List.{concat, flat_map}
use Rattle.rd_base.specs.Cells.{face_after}
use Rattle.rd_base.specs.Equals.{same_face}
use Rattle.rd_base.specs.Faces.{Attributes, plain}
use Rattle.rd_base.specs.Glyphs.{glyph_bytes}
use Rattle.rd_base.specs.declared.cell.Cell.{Cell}
use Rattle.rd_base.specs.declared.cell.Cell.TheVariants.{Blank, First, Rest}
use Rattle.rd_term.specs.Pens.{numbers_of_face}
use Rattle.rd_term.specs.Pictures.{Picture}
use Rattle.rd_dump.specs.declared.dump.WindowFacts.{WindowFacts}
use Rattle.rd_dump.specs.declared.dump.DumpLine.{DumpLine}
use Rattle.rd_dump.specs.declared.dump.DumpLine.TheVariants.{Window, Row, Cursor}
use Rattle.rd_dump.specs.declared.print.Token.{Token}
use Rattle.rd_dump.specs.declared.print.Token.TheVariants.{Text, Number}

abbrev pub newline : List ℕ
newline = 10 ∷ []

-- ---- the tokens of a line

abbrev pub token_text : Token → List ℕ
token_text (Text text) = text.now
token_text (Number n) = decimal n

abbrev pub tokens_text : List Token → List ℕ
tokens_text tokens = flat_map token_text tokens

-- ---- windows

-- a cursor's row and column, to the end of the line
abbrev pub place_text : Option (ℕ × ℕ) → List ℕ
place_text None = codes "none\n"
place_text (Some place) = concat (decimal place.0 ∷ codes "," ∷ decimal place.1 ∷ newline ∷ [])

-- numbers, each behind its label, and other pieces behind them
abbrev pub labelled : List (List ℕ × ℕ) → List (List ℕ) → List (List ℕ)
labelled [] texts = texts
labelled (entry ∷ entries) texts = entry.0 ∷ decimal entry.1 ∷ labelled entries texts

-- a window's number, its place (row, column) and size (columns, rows), its start (position, row) and its point, each behind its label
abbrev pub window_numbers : WindowFacts → List (List ℕ × ℕ)
window_numbers w =
    (codes "window ", w.window)
    ∷ (codes " at ", w.rect.y) ∷ (codes ",", w.rect.x)
    ∷ (codes " size ", w.rect.width) ∷ (codes "x", w.rect.height)
    ∷ (codes " start ", w.start.pos) ∷ (codes ".", w.start.row)
    ∷ (codes " point ", w.point)
    ∷ []

-- a window: these numbers and its cursor
abbrev pub window_line : WindowFacts → List ℕ
window_line w = concat (labelled (window_numbers w) (codes " cursor " ∷ [])) ++ place_text w.cursor

abbrev pub windows_text : List WindowFacts → List ℕ
windows_text windows = flat_map window_line windows

-- ---- the text of a row

-- a space for a blank, a character and its marks, and nothing for a later column of a glyph
abbrev pub cell_text : Cell → List ℕ
cell_text (Blank face) = codes " "
cell_text (First g face) = glyph_bytes g
cell_text Rest = []

abbrev pub cells_text : List Cell → List ℕ
cells_text cells = flat_map cell_text cells

-- ---- the runs of faces

-- the faces of cells, of which the first stands behind one of this face
abbrev pub faces_of : Attributes → List Cell → List Attributes
faces_of before [] = []
faces_of before (cell ∷ cells) = face_after before cell ∷ faces_of (face_after before cell) cells

-- so many columns of a face before these runs, each of which is a number of columns and their face
abbrev pub with_columns : ℕ → Attributes → List (ℕ × Attributes) → List (ℕ × Attributes)
with_columns n face [] = (n, face) ∷ []
with_columns n face (run ∷ runs) = if same_face face run.1 then (n + run.0, face) ∷ runs else (n, face) ∷ run ∷ runs

-- the maximal runs of equal faces
abbrev pub maximal_runs : List Attributes → List (ℕ × Attributes)
maximal_runs [] = []
maximal_runs (face ∷ faces) = with_columns 1 face (maximal_runs faces)

-- ---- a face's numbers

-- a number, behind `;` where there are others before it and else behind `:`
abbrev pub number_text : Bool → Option ℕ → List ℕ
number_text any None = []
number_text any (Some n) = concat ((if any then codes ";" else codes ":") ∷ decimal n ∷ [])

abbrev pub numbers_behind : Bool → List (Option ℕ) → List ℕ
numbers_behind any [] = []
numbers_behind any (number ∷ numbers) = number_text any number ++ numbers_behind (any || is_some number) numbers

-- the numbers of a face that there are, `:` before the first one and `;` before each other one
abbrev pub numbers_text : Attributes → List ℕ
numbers_text f = numbers_behind false (numbers_of_face f)

-- a run from a column up to one that it does not hold, by its first and last column; a plain one has no text
abbrev pub run_text : ℕ → ℕ → Attributes → List ℕ
run_text first end face = if same_face face plain then [] else concat (codes " " ∷ decimal first ∷ codes "-" ∷ decimal (end - 1) ∷ []) ++ numbers_text face

-- the text of a run that ends where the next column has another face
abbrev pub ended_text : ℕ → ℕ → Attributes → Attributes → List ℕ
ended_text first column face next = if same_face next face then [] else run_text first column face

-- runs, of which the first begins in this column
abbrev pub runs_text : ℕ → List (ℕ × Attributes) → List ℕ
runs_text column [] = []
runs_text column (run ∷ runs) = run_text column (column + run.0) run.1 ++ runs_text (column + run.0) runs

abbrev pub runs_of_row : List Cell → List ℕ
runs_of_row cells = runs_text 0 (maximal_runs (faces_of plain cells))

-- ---- rows, and the whole dump

-- a row: its text between two bytes `|`, and its runs that are not plain
abbrev pub row_line : ℕ → List Cell → List ℕ
row_line row cells = concat (codes "row " ∷ decimal row ∷ codes " |" ∷ []) ++ cells_text cells ++ codes "|" ++ runs_of_row cells ++ newline

-- rows, of which the first has this number
abbrev pub rows_text : ℕ → List (List Cell) → List ℕ
rows_text row [] = []
rows_text row (cells ∷ rows) = row_line row cells ++ rows_text (row + 1) rows

abbrev pub cursor_line : ℕ × ℕ → List ℕ
cursor_line place = codes "cursor " ++ place_text (Some place)

-- a line, of whichever kind
abbrev pub line_text : DumpLine → List ℕ
line_text (Window facts) = window_line facts.now
line_text (Row row cells) = row_line row cells.now
line_text (Cursor place) = cursor_line place

-- a line for each window, a line for each row of the screen, and a line for its cursor
abbrev pub dump_text : Picture → List WindowFacts → List ℕ
dump_text picture windows = windows_text windows ++ rows_text 0 picture.rows ++ cursor_line (picture.row, picture.column)
