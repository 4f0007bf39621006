-- Rows and their copies.
use Rattle.std.specs.Prelude.{ℕ, ◌+◌, min, false, List, [], map}
use Rattle.rd_base.specs.Faces.{plain}
use Rattle.rd_base.specs.Glyphs.{blanks}
use Rattle.rd_rows.specs.Rows.{RowMeaning, LaidRow}

-- a row: what is seen of it, and how often it was copied since it was made
pub record RowValues : Type 0 where
  pub shown : RowMeaning
  pub copies : ℕ

abbrev pub shown_rows : List RowValues → List RowMeaning
shown_rows rows = map (λ r. r.shown) rows

-- rows as they are made
abbrev pub made_rows : List LaidRow → List RowValues
made_rows rows = map (λ r. record { shown = r.row; copies = 0 }) rows

-- one more copy, up to the last number
abbrev pub copied : ℕ → ℕ
copied n = min (n + 1) 4294967295

-- a row in which nothing stands
abbrev pub blank_row : ℕ → RowMeaning
blank_row width = record { cells = blanks width plain; begins = []; reversed = false; ends_block = false }
