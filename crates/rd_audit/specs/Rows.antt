-- The lines of a dump.
use Rattle.std.specs.Prelude.{ℕ, ◌==◌, nat_eq, nat_lt, nat_le, Bool, if◌then◌else◌, ◌&&◌, List, [], ◌∷◌, length, Option, None, Some, option_and_then, decimal, codes}
use Rattle.std.specs.List.{starts_with}
use Rattle.rd_base.specs.declared.cell.Cell.{Cell}
use Rattle.rd_base.specs.declared.limits.TheConstants.{FRAME_COLUMNS, FRAME_ROWS, LEAST_FRAME_COLUMNS, LEAST_FRAME_ROWS}
use Rattle.rd_term.specs.Pictures.{width_of}
use Rattle.rd_audit.specs.Cuts.{stripped, cut_last}
use Rattle.rd_audit.specs.Numbers.{pair_of}
use Rattle.rd_audit.specs.FaceRuns.{runs_over}
use Rattle.rd_audit.specs.Texts.{text_cells}

-- what the line of a row begins with, and that of a cursor
abbrev pub row_key : List ℕ
row_key = codes "row "

abbrev pub cursor_key : List ℕ
cursor_key = codes "cursor "

abbrev pub is_row : List ℕ → Bool
is_row line = starts_with nat_eq line row_key

abbrev pub is_cursor : List ℕ → Bool
is_cursor line = starts_with nat_eq line cursor_key

-- `N |` behind a row's key, and what stands behind it
abbrev pub row_text : ℕ → List ℕ → Option (List ℕ)
row_text number behind = option_and_then (stripped (codes " |")) (stripped (decimal number) behind)

-- the cells that a line says behind a row's key: its text up to the last `|`, and the runs of its faces behind that
abbrev pub row_cells : ℕ → List ℕ → Option (List Cell)
row_cells number behind =
    option_and_then (λ parts. option_and_then (runs_over parts.1) (text_cells parts.0)) (option_and_then (cut_last 124) (row_text number behind))

-- whether a row is as wide as those before it, and the first one as wide as a frame may be
abbrev pub is_as_wide : List (List Cell) → List Cell → Bool
is_as_wide [] cells = nat_le LEAST_FRAME_COLUMNS (length cells) && nat_le (length cells) FRAME_COLUMNS
is_as_wide (row ∷ rows) cells = length cells == length row

-- the cells that the line of the next row, which is not one too many, says behind its key
abbrev pub next_row : List (List Cell) → List ℕ → Option (List Cell)
next_row rows behind =
    if nat_lt (length rows) FRAME_ROWS then
    option_and_then (λ cells. if is_as_wide rows cells then Some cells else None) (row_cells (length rows) behind)
    else None

-- `cursor R,C`
abbrev pub place_in : List ℕ → Option (ℕ × ℕ)
place_in line = option_and_then (pair_of 44) (stripped cursor_key line)

-- the place of the cursor's line, which is on the screen, and not too early
abbrev pub cursor_place : List (List Cell) → List ℕ → Option (ℕ × ℕ)
cursor_place rows line =
    if nat_le LEAST_FRAME_ROWS (length rows) then
    option_and_then (λ place. if nat_lt place.0 (length rows) && nat_lt place.1 (width_of rows) then Some place else None) (place_in line)
    else None
