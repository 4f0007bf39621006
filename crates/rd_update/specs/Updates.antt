-- The bytes that bring a terminal from the current screen to the target screen.
use Rattle.std.specs.Prelude.{ℕ, zero, suc, ◌+◌, ◌-◌, nat_lt, nat_le, min, max, Bool, true, false, if◌then◌else◌, ◌||◌, not, List, [], ◌∷◌, ◌++◌, length, take, drop, map, Option, None, Some, option_to_list, slice_index_or}
use Rattle.std.specs.Fmt.{decimal}
use Rattle.std.specs.List.{flat_map}
use Rattle.rd_base.specs.Cells.{face_after}
use Rattle.rd_base.specs.Equals.{same_face, same_cell}
use Rattle.rd_base.specs.Faces.{Attributes, plain}
use Rattle.rd_base.specs.Glyphs.{glyph_bytes}
use Rattle.rd_base.specs.declared.cell.Cell.{Cell}
use Rattle.rd_base.specs.declared.cell.Cell.TheVariants.{Blank, First, Rest}
use Rattle.rd_term.specs.Pens.{numbers_of_face}
use Rattle.rd_term.specs.Pictures.{Picture, blank, blank_row}
use Rattle.rd_term.specs.Walks.{back_while, passing}

-- ---- where two rows differ

-- the first column at which two rows differ, and their width where they do not
abbrev pub first_difference : List Cell → List Cell → ℕ
first_difference (x ∷ xs) (y ∷ ys) = if same_cell x y then suc (first_difference xs ys) else 0
first_difference _ _ = 0

-- where two lists stop to differ, by whether their first elements are the same and where the rests stop
abbrev pub end_before : Bool → ℕ → ℕ
end_before same (suc end) = suc (suc end)
end_before true zero = 0
end_before false zero = 1

-- the place after the last one at which two lists differ by a test, and 0 where they do not
abbrev pub end_unlike : {X : Type 0} → (X → X → Bool) → List X → List X → ℕ
end_unlike same (x ∷ xs) (y ∷ ys) = end_before (same x y) (end_unlike same xs ys)
end_unlike same _ _ = 0

-- the column after the last one at which two rows differ, and 0 where they do not
abbrev pub end_of_differences : List Cell → List Cell → ℕ
end_of_differences old new = end_unlike same_cell old new

-- ---- the interval that is sent

-- a later column of a character
abbrev pub is_rest : Cell → Bool
is_rest Rest = true
is_rest cell = false

-- a character of either row goes on at this column
abbrev pub goes_on : List Cell → List Cell → ℕ → Bool
goes_on old new column = is_rest (slice_index_or old column blank) || is_rest (slice_index_or new column blank)

-- the last column up to this one at which no character goes on
abbrev pub begin_before : List Cell → List Cell → ℕ → ℕ
begin_before old new column = back_while (goes_on old new) column

-- for two rows of one width, the least interval that holds all columns at which they differ, and cuts no character of either: it
-- ends at the first column behind the last difference at which no character goes on, or at the rows' end
abbrev pub begin_of : List Cell → List Cell → ℕ
begin_of old new = begin_before old new (first_difference old new)

abbrev pub end_of : List Cell → List Cell → ℕ
end_of old new =
    let end = end_of_differences old new in
    end + passing (goes_on old new) end (length new - end)

-- the first column from which a row is blank and plain to its end
abbrev pub used : List Cell → ℕ
used row = end_of_differences (blank_row (length row)) row

abbrev pub differs : List Cell → List Cell → Bool
differs old new = nat_lt 0 (end_of_differences old new)

-- ---- bytes

-- `\e[K`
abbrev pub erase_to_end : List ℕ
erase_to_end = 27 ∷ 91 ∷ 75 ∷ []

-- `\e[0m` and `\e[2J`, by which an unknown screen becomes blank and plain
abbrev pub repaint : List ℕ
repaint = 27 ∷ 91 ∷ 48 ∷ 109 ∷ 27 ∷ 91 ∷ 50 ∷ 74 ∷ []

-- the numbers of a control sequence that make a plain face this one
abbrev pub renditions : Attributes → List ℕ
renditions f = flat_map option_to_list (numbers_of_face f)

abbrev pub parameter : ℕ → List ℕ
parameter n = 59 ∷ decimal n

-- a control sequence: its numbers between semicolons, and its last byte
abbrev pub sequence : ℕ → List ℕ → ℕ → List ℕ
sequence n ns last = 27 ∷ 91 ∷ (decimal n ++ (flat_map parameter ns ++ last ∷ []))

-- `\e[r;cH`, for a row and a column from 0
abbrev pub move : ℕ → ℕ → List ℕ
move row column = sequence (row + 1) ((column + 1) ∷ []) 72

-- `\e[0;a;b;..m`, by which the pen becomes a face
abbrev pub rendition : Attributes → List ℕ
rendition f = 27 ∷ 91 ∷ 48 ∷ (flat_map parameter (renditions f) ++ 109 ∷ [])

-- what makes a pen of one face one of another
abbrev pub dress : Attributes → Attributes → List ℕ
dress pen face = if same_face pen face then [] else rendition face

-- a cell, by a pen of this face: a blank is a space, and a cell is dressed where its face is not the pen's
abbrev pub text_of_cell : Attributes → Cell → List ℕ
text_of_cell pen (Blank f) = dress pen f ++ 32 ∷ []
text_of_cell pen (First g f) = dress pen f ++ glyph_bytes g
text_of_cell pen Rest = []

-- cells, and the pen's face behind them
abbrev pub text_by : Attributes → List Cell → List ℕ
text_by pen [] = []
text_by pen (cell ∷ cells) = text_of_cell pen cell ++ text_by (face_after pen cell) cells

abbrev pub pen_behind : Attributes → List Cell → Attributes
pen_behind pen [] = pen
pen_behind pen (cell ∷ cells) = pen_behind (face_after pen cell) cells

-- A row that differs: the cells of the interval are sent by a pen that is plain before and behind them, but what is blank and
-- plain to the row's end is erased in one where a part of it lies in the interval.
abbrev pub row_bytes : ℕ → List Cell → List Cell → List ℕ
row_bytes row old new =
    let from = begin_of old new in
    let end = end_of old new in
    let blank_from = max from (used new) in
    let cells = take (min end blank_from - from) (drop from new) in
    move row from
    ++ (text_by plain cells
    ++ (dress (pen_behind plain cells) plain
    ++ (if nat_lt blank_from end then erase_to_end else [])))

-- ---- rows, while a limit of rows allows

abbrev pub allows : Option ℕ → Bool
allows None = true
allows (Some zero) = false
allows (Some (suc n)) = true

abbrev pub less_one : Option ℕ → Option ℕ
less_one None = None
less_one (Some n) = Some (n - 1)

-- the bytes of the rows that differ, from the top, where the first one given is the row of this number
abbrev pub rows_bytes : ℕ → Option ℕ → List (List Cell) → List (List Cell) → List ℕ
rows_bytes row limit (old ∷ olds) (new ∷ news) =
    if not (differs old new) then rows_bytes (row + 1) limit olds news
    else if allows limit then row_bytes row old new ++ rows_bytes (row + 1) (less_one limit) olds news
    else []
rows_bytes row limit _ _ = []

-- the rows that stand once those that differ were sent, from the top, as many as a limit allows
abbrev pub rows_after : Option ℕ → List (List Cell) → List (List Cell) → List (List Cell)
rows_after limit (old ∷ olds) (new ∷ news) =
    if not (differs old new) then new ∷ rows_after limit olds news
    else if allows limit then new ∷ rows_after (less_one limit) olds news
    else old ∷ olds
rows_after limit olds news = olds

-- how many of the rows of two screens differ
abbrev pub differing : List (List Cell) → List (List Cell) → ℕ
differing (old ∷ olds) (new ∷ news) = if differs old new then suc (differing olds news) else differing olds news
differing _ _ = 0

-- how many of so many rows are sent, and whether these are all
abbrev pub within : Option ℕ → ℕ → ℕ
within None count = count
within (Some limit) count = min limit count

abbrev pub is_done : Option ℕ → ℕ → Bool
is_done None count = true
is_done (Some limit) count = nat_le count limit

-- ---- an update

-- the screen that counts as current: an unknown one counts as blank and plain, with its cursor at its first cell
abbrev pub blank_like : List (List Cell) → List (List Cell)
blank_like rows = map (λ row. blank_row (length row)) rows

abbrev pub start : Option Picture → Picture → Picture
start None target = record { rows = blank_like target.rows; row = 0; column = 0 }
start (Some current) target = current

abbrev pub opening : Option Picture → List ℕ
opening None = repaint
opening (Some current) = []

-- the bytes, the number of rows sent, whether the target is reached, and the new current screen
pub record Update : Type 0 where
  pub bytes : List ℕ
  pub rows : ℕ
  pub done : Bool
  pub screen : Picture

abbrev pub update : Option Picture → Picture → Option ℕ → Update
update current target limit =
    let old = start current target in
    let count = differing old.rows target.rows in
    let done = is_done limit count in
    record {
      bytes = opening current ++ rows_bytes 0 limit old.rows target.rows ++ (if done then move target.row target.column else []);
      rows = within limit count;
      done = done;
      screen = record {
        rows = rows_after limit old.rows target.rows;
        row = if done then target.row else old.row;
        column = if done then target.column else old.column;
      };
    }
