-- The dump of a file.
use Rattle.std.specs.Prelude.{ℕ, ◌+◌, if◌then◌else◌, List, [], ◌∷◌, ◌++◌, Option, None, Some, option_map, unwrap_or, Result, Ok, Err}
use Rattle.std.specs.Option.{option_or}
use Rattle.rd_base.specs.declared.cell.Cell.{Cell}
use Rattle.rd_io.specs.Lines.{lines_of}
use Rattle.rd_term.specs.Pictures.{Picture}
use Rattle.rd_audit.specs.Cuts.{stripped}
use Rattle.rd_audit.specs.Rows.{row_key, is_row, is_cursor, next_row, cursor_place}

-- Where the last group of adjacent row lines begins that the line of a cursor follows: the number of its first line, counted on from
-- this one, and the lines from there on. `begun` is where a group began that goes on at these lines, `found` the last one before.
abbrev pub last_group : ℕ → Option (ℕ × List (List ℕ)) → Option (ℕ × List (List ℕ)) → List (List ℕ) → Option (ℕ × List (List ℕ))
last_group number begun found [] = found
last_group number begun found (line ∷ lines) =
    if is_row line then last_group (number + 1) (option_or begun (Some (number, line ∷ lines))) found lines
    else if is_cursor line then last_group (number + 1) None (option_or begun found) lines
    else last_group (number + 1) None found lines

-- the picture of these rows with a place of the cursor, or the number of a bad line where there is none
abbrev pub ended_by : ℕ → List (List Cell) → Option (ℕ × ℕ) → Result Picture ℕ
ended_by number rows None = Err number
ended_by number rows (Some place) = Ok (record { rows = rows; row = place.0; column = place.1 })

-- the picture by what follows a row with these cells, or the number of a bad line where there are none
abbrev pub after_row : ℕ → (List Cell → Result Picture ℕ) → Option (List Cell) → Result Picture ℕ
after_row number rest None = Err number
after_row number rest (Some cells) = rest cells

-- The picture that the lines of a group say, of which these rows were read and the next line has this number, or the number of the
-- first line that is bad.
abbrev pub picture_from : ℕ → List (List Cell) → List (List ℕ) → Result Picture ℕ
picture_from number rows [] = Err number
picture_from number rows (line ∷ lines) =
    unwrap_or
    (option_map (λ behind. after_row number (λ cells. picture_from (number + 1) (rows ++ cells ∷ []) lines) (next_row rows behind)) (stripped row_key line))
    (ended_by number rows (cursor_place rows line))

abbrev pub picture_of : Option (ℕ × List (List ℕ)) → Result Picture ℕ
picture_of None = Err 0
picture_of (Some group) = picture_from group.0 [] group.1

-- The picture that a file's last dump shows, or the number of the first line that is bad, and 0 where there is no dump. Lines count
-- from 1.
abbrev pub dump_in : List ℕ → Result Picture ℕ
dump_in file = picture_of (last_group 1 None None (lines_of file))
