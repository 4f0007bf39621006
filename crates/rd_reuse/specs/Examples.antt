-- A text of three lines, and its rows at an earlier time, for worked examples.
use Rattle.std.specs.Prelude.{ℕ, ◌+◌, ◌==◌, Bool, true, false, if◌then◌else◌, List, [], ◌∷◌}
use Rattle.rd_matrix.specs.Sources.{SourceValues, source_by_itself}
use Rattle.rd_matrix.specs.declared.block.Block.{Block}
use Rattle.rd_matrix.specs.declared.matrix.Entry.{Entry}
use Rattle.rd_rows.specs.Rows.{RowMeaning}

abbrev pub block : ℕ → ℕ → ℕ → Block
block start end base = record { start = start; end = end; base = base }

-- a row, read from its right edge or not, which ends its block or not
abbrev pub row : Bool → Bool → RowMeaning
row reversed last = record { cells = []; begins = []; reversed = reversed; ends_block = last }

-- a row of an older layout that was copied so often
abbrev pub older : ℕ → ℕ → RowMeaning → ℕ → Entry
older start number shown copies = record { start = start; number = number; row = record { shown = shown; copies = copies } }

-- a line of three characters, one of fifteen in two rows, and one of two, which were laid out before
abbrev pub older_lines : List Entry
older_lines = older 1 0 (row false true) 0 ∷ older 5 0 (row false false) 1 ∷ older 5 1 (row false true) 2 ∷ older 21 0 (row false true) 3 ∷ []

-- the lines of `older_lines` after a character was put into the second one
abbrev pub longer_lines : SourceValues
longer_lines =
    source_by_itself (block 1 5 0 ∷ block 5 22 0 ∷ block 22 25 0 ∷ [])
    (λ b shape. if b.start == 5 then row false false ∷ row false true ∷ [] else row false true ∷ [])
    (λ b shape. if b.start == 5 then 17 else 3)

-- the lines `a`, `b` and a third one of so many positions
abbrev pub two_letters_and : ℕ → SourceValues
two_letters_and count =
    source_by_itself (block 1 3 0 ∷ block 3 5 0 ∷ block 5 (5 + count) 0 ∷ []) (λ b shape. row false true ∷ []) (λ b shape. if b.start == 5 then count else 2)

-- the rows of the lines `a`, `b` and `c`, copied so often
abbrev pub three_letters : ℕ → List Entry
three_letters copies = older 1 0 (row false true) copies ∷ older 3 0 (row false true) copies ∷ older 5 0 (row false true) copies ∷ []
