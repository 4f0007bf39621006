-- What is prepared for an update, so that any number of its rows can be sent.
use Rattle.std.specs.Prelude.{◌≡◌, ℕ, ◌+◌, ◌<◌, ◌≤◌, nat_lt, Bool, true, false, if◌then◌else◌, List, [], ◌∷◌, length, All, Option, None, Some, Result, IfOk, slice_index_or}
use Rattle.std.specs.Borrow.{Bor}
use Rattle.rd_base.specs.Cells.{row_at}
use Rattle.rd_base.specs.declared.limits.TheConstants.{FRAME_ROWS}
use Rattle.rd_base.specs.declared.cell.Cell.{Cell}
use Rattle.rd_io.specs.Devices.{Writes}
use Rattle.rd_term.specs.Pictures.{Picture, width_of}
use Rattle.rd_update.specs.Updates.{differs, row_bytes, start, opening, Update, update}
use Rattle.rd_update.specs.declared.plan.ChangedRow.{ChangedRow}
use Rattle.rd_update.specs.declared.plan.Sent.{Sent}

-- the bytes of the whole update; and of each row that differs its number, and how many bytes stand before it
pub record Prepared : Type 0 where
  pub bytes : List ℕ
  pub parts : List ChangedRow

-- the rows that differ, where so many bytes stand before the first one given, which is the row of this number
abbrev pub parts_from : ℕ → ℕ → List (List Cell) → List (List Cell) → List ChangedRow
parts_from row at (old ∷ olds) (new ∷ news) =
    if differs old new then (record { row = row; start = at }) ∷ parts_from (row + 1) (at + length (row_bytes row old new)) olds news
    else parts_from (row + 1) at olds news
parts_from row at _ _ = []

abbrev pub planned : Option Picture → Picture → Prepared
planned current target = record {
  bytes = (update current target None).bytes;
  parts = parts_from 0 (length (opening current)) (start current target).rows target.rows;
}

-- the picture behind a reference
abbrev pub shown : Option (Bor Picture) → Option Picture
shown None = None
shown (Some screen) = Some screen.now

-- the current screen, where it is known, has the size of the target
abbrev pub HaveOneSize : Option Picture → Picture → Type 0
HaveOneSize None target = Unit {0}
HaveOneSize (Some current) target = (length current.rows ≡ length target.rows) × (width_of current.rows ≡ width_of target.rows)

-- what a sent update answers
abbrev pub sent_of : Update → Sent
sent_of u = record { rows = u.rows; done = u.done }

-- the bytes of an update were sent, and what is answered is `sent_of` it; after a failure a front of the bytes was sent
pub record Sends {E : Type 0} (old new : Option (List ℕ)) (u : Update) (result : Result Sent E) : Type 0 where
  pub bytes : Writes old new u.bytes result
  pub sent : IfOk result (λ sent. sent ≡ sent_of u)

-- the row of the current screen, where an unknown one has this row everywhere
abbrev pub old_row : Option Picture → List Cell → ℕ → List Cell
old_row None blank row = blank
old_row (Some current) blank row = row_at current.rows row

-- a known current screen has this row, and rows of this width
abbrev pub IsRowOf : Option Picture → ℕ → ℕ → Type 0
IsRowOf None width row = Unit {0}
IsRowOf (Some current) width row = (row < length current.rows) × (width_of current.rows ≡ width)

-- at most as many parts as a frame has rows, each of which begins within the bytes
pub record ArePartsOf (bytes : List ℕ) (parts : List ChangedRow) : Type 0 where
  pub few : length parts ≤ FRAME_ROWS
  pub each : All (λ part. part.start ≤ length bytes) parts

abbrev pub no_part : ChangedRow
no_part = record { row = 0; start = 0 }

-- how many bytes are sent under a limit, and what is answered then
abbrev pub front_if : Bool → Prepared → ℕ → ℕ × Sent
front_if true plan limit = ((slice_index_or plan.parts limit no_part).start, record { rows = limit; done = false })
front_if false plan limit = (length plan.bytes, record { rows = length plan.parts; done = true })

abbrev pub front_within : Prepared → Option ℕ → ℕ × Sent
front_within plan None = front_if false plan 0
front_within plan (Some limit) = front_if (nat_lt limit (length plan.parts)) plan limit

-- what stands for the row of the number in a list of parts
abbrev pub part_if : Bool → ℕ → ℕ → List ChangedRow
part_if differ row at = if differ then (record { row = row; start = at }) ∷ [] else []

abbrev pub bytes_if : Bool → List ℕ → List ℕ
bytes_if differ bytes = if differ then bytes else []
