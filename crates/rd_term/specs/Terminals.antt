-- The terminal: a function from what it is and the bytes that it reads to what it then is.
use Rattle.std.specs.Prelude.{◌≡◌, ℕ, zero, suc, ◌+◌, ◌-◌, ◌<◌, ◌≤◌, ◌==◌, nat_lt, nat_le, min, Bool, true, false, if◌then◌else◌, ◌&&◌, ◌||◌, not, List, [], ◌∷◌, length, replicate, map, Option, None, Some, IfSome, option_map, slice_set, slice_index_or, fold}
use Rattle.rd_base.specs.Chars.{columns_of}
use Rattle.rd_base.specs.declared.limits.TheConstants.{FRAME_COLUMNS, FRAME_ROWS}
use Rattle.rd_base.specs.Cells.{single, joined_glyph, row_at}
use Rattle.rd_base.specs.Equals.{same_face}
use Rattle.rd_base.specs.Faces.{Attributes, plain}
use Rattle.rd_base.specs.Glyphs.{glyph_cells}
use Rattle.rd_base.specs.declared.cell.Glyph.{Glyph}
use Rattle.rd_base.specs.declared.cell.Cell.{Cell}
use Rattle.rd_base.specs.declared.cell.Cell.TheVariants.{Blank, First, Rest}
use Rattle.rd_term.specs.Overwriting.{overwritten}
use Rattle.rd_term.specs.Pens.{are_renditions, pen_by}
use Rattle.rd_term.specs.Pictures.{Picture, blank, with_cell, width_of, IsGrid}
use Rattle.rd_term.specs.Shifts.{cleared, moved, changed_between, rows_moved}
use Rattle.rd_term.specs.Steps.{read_byte}
use Rattle.rd_term.specs.declared.control.Control.{Control}
use Rattle.rd_term.specs.declared.control.Control.TheVariants.{MoveTo, ClearAll, EraseToEnd, InsertRows, DeleteRows, ChangePen, SetRegion}
use Rattle.rd_term.specs.declared.shifting.RowMove.{RowMove}
use Rattle.rd_term.specs.declared.shifting.RowMove.TheVariants.{Down, Up}
use Rattle.rd_term.specs.declared.reading.Reading.{Reading}
use Rattle.rd_term.specs.declared.reading.Reading.TheVariants.{Between, Escaped}
use Rattle.rd_term.specs.declared.reading.Step.{Step}
use Rattle.rd_term.specs.declared.reading.Step.TheVariants.{Begins, GoesOn, Prints, Obeys, Fails}

-- A cell that is not known is None, and so are a region, a cursor and a pen. The region is its first and its last row, and the
-- cursor a row and a column, all from 0. `wait` says that a character filled the cursor's row; while the cursor is not known it is
-- false. `latest` is the first place of the character that the bytes directly before this put, and None after a sequence.
pub record Tty : Type 0 where
  pub rows : List (List (Option Cell))
  pub region : Option (ℕ × ℕ)
  pub cursor : Option (ℕ × ℕ)
  pub wait : Bool
  pub pen : Option Attributes
  pub latest : Option (ℕ × ℕ)
  pub reading : Reading
  pub confused : Bool

-- a terminal of which nothing is known
abbrev pub unknown : ℕ → ℕ → Tty
unknown width height = record {
  rows = replicate height (replicate width None);
  region = None;
  cursor = None;
  wait = false;
  pen = None;
  latest = None;
  reading = Between;
  confused = false;
}

-- a terminal that has read what it can't obey, and stays as it is
abbrev pub confuse : Tty → Tty
confuse t = record t { confused = true }

-- the pen is known to be plain
abbrev pub writes_plain : Option Attributes → Bool
writes_plain None = false
writes_plain (Some face) = same_face face plain

-- whether a row and a column, counted from 1, are on the screen
abbrev pub on_screen : {A : Type 0} → List (List A) → ℕ → ℕ → Bool
on_screen rows r c = nat_lt 0 r && nat_le r (length rows) && nat_lt 0 c && nat_le c (length (row_at rows (r - 1)))

-- `\e[r;cH`: the cursor goes to a row and a column, counted from 1, that are on the screen, and the wait ends
abbrev pub move_to : List ℕ → Tty → Tty
move_to (r ∷ c ∷ []) t = if on_screen t.rows r c then record t { cursor = Some (r - 1, c - 1); wait = false } else confuse t
move_to numbers t = confuse t

-- `\e[2J`: all cells become blank and plain, by a plain pen
abbrev pub clear : List ℕ → Tty → Tty
clear (n ∷ []) t = if n == 2 && writes_plain t.pen then record t { rows = map cleared t.rows } else confuse t
clear numbers t = confuse t

-- a row of which the cells from a column to the end are blank and plain; what is left of a character that this cuts is unknown
abbrev pub erased_from : ℕ → List (Option Cell) → List (Option Cell)
erased_from column row = overwritten column (replicate (length row - column) (Some blank)) row

abbrev pub erase_at : Option (ℕ × ℕ) → Tty → Tty
erase_at None t = confuse t
erase_at (Some place) t = record t { rows = slice_set t.rows place.0 (erased_from place.1 (row_at t.rows place.0)) }

-- `\e[K`: the cells from the cursor to its row's end become blank and plain, by a plain pen and while no wait stands; what is
-- left of a character that this cuts becomes unknown
abbrev pub erase : List ℕ → Tty → Tty
erase [] t = if writes_plain t.pen && not t.wait then erase_at t.cursor t else confuse t
erase (n ∷ ns) t = confuse t

-- `\e[a;b;..m`: one or more numbers change the pen, one after another
abbrev pub dress : List ℕ → Tty → Tty
dress [] t = confuse t
dress (n ∷ ns) t = if are_renditions (n ∷ ns) then record t { pen = pen_by (n ∷ ns) t.pen } else confuse t

-- `\e[t;br`: the region becomes the rows t to b, counted from 1, where t is less than b and both are on the screen; the cursor is
-- not known then, and the wait ends
abbrev pub set_region : List ℕ → Tty → Tty
set_region (t ∷ b ∷ []) s =
    if nat_lt 0 t && nat_lt t b && nat_le b (length s.rows) then
    record s { region = Some (t - 1, b - 1); cursor = None; wait = false }
    else confuse s
set_region numbers s = confuse s

-- the rows of a part are moved, and the cursor is not known then; the terminal is confused where there is no part
abbrev pub move_rows : (List (List (Option Cell)) → List (List (Option Cell))) → Option (ℕ × ℕ) → Tty → Tty
move_rows move None t = confuse t
move_rows move (Some part) t = record t { rows = changed_between part.0 part.1 move t.rows; cursor = None }

abbrev pub may_move : ℕ → Tty → Bool
may_move n t = nat_lt 0 n && writes_plain t.pen && not t.wait

-- `\e[nL` and `\e[nM`: the rows from the cursor's to the region's last are moved down or up by n, which is at least 1, by a plain
-- pen, while no wait stands, with a cursor in a known region; the cursor is not known then
abbrev pub shift_rows : RowMove → List ℕ → Tty → Tty
shift_rows way (n ∷ []) t = if may_move n t then move_rows (moved way n) (rows_moved t.region t.cursor) t else confuse t
shift_rows way numbers t = confuse t

-- a whole sequence, by its control function and its numbers
abbrev pub obey : Control → List ℕ → Tty → Tty
obey MoveTo numbers t = move_to numbers t
obey ClearAll numbers t = clear numbers t
obey EraseToEnd numbers t = erase numbers t
obey InsertRows numbers t = shift_rows Down numbers t
obey DeleteRows numbers t = shift_rows Up numbers t
obey ChangePen numbers t = dress numbers t
obey SetRegion numbers t = set_region numbers t

-- the cell of a character of one column
abbrev pub cell_of : ℕ → Attributes → Cell
cell_of code face = if code == 32 then Blank face else First (single code 1) face

-- a row that shows a text of ASCII in the plain face
abbrev pub plain_row : List ℕ → List Cell
plain_row text = map (λ code. cell_of code plain) text

-- a character of so many columns, put where the cursor is: it goes on by as many, and at the row's end it stays in the last
-- column and the wait begins
abbrev pub put_at : ℕ → ℕ → Attributes → ℕ → ℕ → Tty → Tty
put_at code columns face row column t =
    let cells = row_at t.rows row in
    record t {
      rows = slice_set t.rows row (overwritten column (map Some (glyph_cells columns (single code columns) face)) cells);
      cursor = Some (row, min (column + columns) (length cells - 1));
      wait = nat_le (length cells) (column + columns);
      latest = Some (row, column);
    }

-- a character of so many columns is put at the cursor where cursor and pen are known, no wait stands and the row has room for it; else
-- the terminal is confused
abbrev pub put : ℕ → ℕ → Option Attributes → Option (ℕ × ℕ) → Tty → Tty
put code columns (Some face) (Some place) t =
    if t.wait || nat_lt (length (row_at t.rows place.0)) (place.1 + columns) then confuse t
    else put_at code columns face place.0 place.1 t
put code columns (Some face) None t = confuse t
put code columns None place t = confuse t

-- the cell of a glyph with one more mark
abbrev pub joined_cell : ℕ → Glyph → Attributes → Option Cell
joined_cell code g face = option_map (λ more. First more face) (joined_glyph g code)

-- a cell with one more mark: a blank counts as a space
abbrev pub marked : ℕ → Option Cell → Option Cell
marked code None = None
marked code (Some (Blank face)) = joined_cell code (single 32 1) face
marked code (Some (First g face)) = joined_cell code g face
marked code (Some Rest) = None

-- a character of no column joins the one put directly before it
abbrev pub join_mark_into : Option Cell → ℕ → ℕ → Tty → Tty
join_mark_into None row column t = confuse t
join_mark_into (Some cell) row column t = record t { rows = with_cell t.rows row column (Some cell) }

abbrev pub join_mark : ℕ → Option (ℕ × ℕ) → Tty → Tty
join_mark code None t = confuse t
join_mark code (Some place) t = join_mark_into (marked code (slice_index_or (row_at t.rows place.0) place.1 None)) place.0 place.1 t

-- a character, by its columns
abbrev pub show : ℕ → Option ℕ → Tty → Tty
show code None t = confuse t
show code (Some zero) t = join_mark code t.latest t
show code (Some (suc columns)) t = put code (suc columns) t.pen t.cursor t

-- a terminal after a step of its reading: it reads on, shows a character, obeys a control, or is confused
abbrev pub perform : Step → Tty → Tty
perform Begins t = record t { reading = Escaped; latest = None }
perform (GoesOn reading) t = record t { reading = reading }
perform (Prints code) t = show code (columns_of code) t
perform (Obeys control numbers) t = obey control numbers t
perform Fails t = confuse t

-- a terminal after one byte; one that is confused stays as it is
abbrev pub feed_byte : Tty → ℕ → Tty
feed_byte t byte = if t.confused then t else perform (read_byte t.reading byte) (record t { reading = Between })

-- a terminal after bytes, one after another
abbrev pub feed_bytes : Tty → List ℕ → Tty
feed_bytes = fold feed_byte

-- rows of which each cell is known
abbrev pub known : List (List Cell) → List (List (Option Cell))
known rows = map (map Some) rows

-- a terminal that is not confused shows a picture: each cell is the picture's, and the cursor is the picture's
pub record Shows (t : Tty) (picture : Picture) : Type 0 where
  pub sure : t.confused ≡ false
  pub cells : t.rows ≡ known picture.rows
  pub cursor : t.cursor ≡ Some (picture.row, picture.column)

-- a known place is on the rows
abbrev pub IsWithin : List (List (Option Cell)) → Option (ℕ × ℕ) → Type 0
IsWithin rows place = IfSome place (λ place. (place.0 < length rows) × (place.1 < width_of rows))

-- what a terminal may be: 1 to 400 columns and 1 to 200 rows, with a known cursor on them
pub record IsTerminal (rows : List (List (Option Cell))) (cursor : Option (ℕ × ℕ)) : Type 0 where
  pub each : IsGrid (width_of rows) rows
  pub some : 0 < width_of rows
  pub wide : width_of rows ≤ FRAME_COLUMNS
  pub tall : length rows ≤ FRAME_ROWS
  pub place : IsWithin rows cursor

-- a known region is two rows or more of them
abbrev pub HasRegion : List (List (Option Cell)) → Option (ℕ × ℕ) → Type 0
HasRegion rows region = IfSome region (λ r. (r.0 < r.1) × (r.1 < length rows))

-- what a terminal may be, with the place of its latest character and its region
abbrev pub IsWhole : List (List (Option Cell)) → Option (ℕ × ℕ) → Option (ℕ × ℕ) → Option (ℕ × ℕ) → Type 0
IsWhole rows cursor latest region = IsTerminal rows cursor × IsWithin rows latest × HasRegion rows region
