-- What is printed and read back.
use Rattle.std.specs.Prelude.{◌≡◌, ℕ, ◌≤◌, false, List, length, All}
use Rattle.rd_base.specs.declared.limits.TheConstants.{LEAST_FRAME_COLUMNS, LEAST_FRAME_ROWS}
use Rattle.rd_base.specs.Cells.{AreColoured}
use Rattle.rd_term.specs.Pictures.{Picture, IsScreen, IsWellFormed, width_of}
use Rattle.rd_audit.specs.Rows.{is_cursor}

-- a screen of at least 12 columns and 2 rows in which each glyph stands whole, its cursor is on it, and each colour is in its range
pub record HasDump (picture : Picture) : Type 0 where
  pub screen : IsScreen picture
  pub whole : IsWellFormed picture
  pub colours : AreColoured picture.rows
  pub wide : LEAST_FRAME_COLUMNS ≤ width_of picture.rows
  pub tall : LEAST_FRAME_ROWS ≤ length picture.rows

-- lines of which none is a cursor's
abbrev pub HasNoCursor : List (List ℕ) → Type 0
HasNoCursor lines = All (λ line. is_cursor line ≡ false) lines
