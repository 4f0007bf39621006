-- Sources and windows for worked examples.
use Rattle.std.specs.Prelude.{ℕ, zero, suc, ◌+◌, ◌==◌, if◌then◌else◌, true, false, List, [], ◌∷◌, ◌++◌, pos}
use Rattle.rd_matrix.specs.Sources.{SourceValues, source_by_itself}
use Rattle.rd_matrix.specs.declared.block.Block.{Block}
use Rattle.rd_rows.specs.Rows.{RowMeaning}
use Rattle.rd_rows.specs.declared.begin.Begin.{Begin}
use Rattle.rd_start.specs.declared.wanted.Wanted.{Wanted}

-- so many items, each of one position, from an offset on
abbrev pub items_from : ℕ → ℕ → List Begin
items_from offset zero = []
items_from offset (suc n) = record { from = offset; to = offset + 1; column = offset } ∷ items_from (offset + 1) n

-- a row in which items begin, the last of its block
abbrev pub last_row : List Begin → RowMeaning
last_row bs = record { cells = []; begins = bs; reversed = false; ends_block = true }

-- so many lines of one character, from a position on
abbrev pub short_lines : ℕ → ℕ → List Block
short_lines start zero = []
short_lines start (suc n) = record { start = start; end = start + 2; base = 0 } ∷ short_lines (start + 2) n

-- lines of one character, each in one row of two elements
abbrev pub one_letter_lines : ℕ → SourceValues
one_letter_lines n = source_by_itself (short_lines 1 n) (λ b shape. last_row (items_from 0 2) ∷ []) (λ b shape. 2)

-- the lines `ab` and `c`
abbrev pub two_and_one : SourceValues
two_and_one =
    source_by_itself (record { start = 1; end = 4; base = 0 } ∷ record { start = 4; end = 6; base = 0 } ∷ [])
    (λ b shape. last_row (items_from 0 (if b.start == 1 then 3 else 2)) ∷ []) (λ b shape. 2)

-- a row whose block goes on
abbrev pub other_row : List Begin → RowMeaning
other_row bs = record (last_row bs) { ends_block = false }

-- `xy`, and before `y` a string of seven lines
abbrev pub seven_rows : SourceValues
seven_rows =
    source_by_itself (record { start = 1; end = 4; base = 0 } ∷ [])
    (λ b shape. other_row (items_from 0 1 ++ record { from = 1; to = 1; column = 1 } ∷ []) ∷ other_row [] ∷ other_row [] ∷ other_row [] ∷ other_row [] ∷ other_row [] ∷ last_row (items_from 1 2) ∷ [])
    (λ b shape. 16)

-- a window of so many rows that follows point
abbrev pub window : ℕ → ℕ → ℕ → Wanted
window height start point = record {
  anchor = record { pos = start; row = 0 };
  forced = false;
  pending = pos 0;
  point = point;
  height = height;
  margin = 0;
  conservatively = 0;
}
