-- Rows of a band that the terminal moves up or down, and the bytes that tell it to.
use Rattle.std.specs.Prelude.{ℕ, suc, ◌+◌, ◌-◌, ℤ, pos, negsuc, List, [], ◌∷◌, ◌++◌, length, take, drop, replicate}
use Rattle.rd_term.specs.Pictures.{Picture, blank_row, width_of}
use Rattle.rd_term.specs.Shifts.{changed_between}
use Rattle.rd_update.specs.Updates.{sequence}
use Rattle.rd_lineshift.specs.declared.band.Shift.{Shift}

-- Rows after a move by d: the row r becomes the old row r + d, or this row where none stands there. So d above 0 moves rows up, and
-- d below 0 down.
abbrev pub moved : {A : Type 0} → ℤ → A → List A → List A
moved (pos up) free rows = drop up rows ++ replicate up free
moved (negsuc n) free rows = replicate (suc n) free ++ take (length rows - suc n) rows

-- rows after a shift: those of its band are moved within it, with this row where one comes in; all other rows stay
abbrev pub shifted_rows : {A : Type 0} → Shift → A → List A → List A
shifted_rows s free rows = changed_between s.top (s.top + s.height) (moved s.by free) rows

-- a screen after a shift: the rows that come in are blank and plain, and the cursor stays
abbrev pub shifted : Shift → Picture → Picture
shifted s screen = record screen { rows = shifted_rows s (blank_row (width_of screen.rows)) screen.rows }

-- `\e[nM` where rows move up by n, and `\e[nL` where they move down by n
abbrev pub moving : ℤ → List ℕ
moving (pos up) = sequence up [] 77
moving (negsuc n) = sequence (suc n) [] 76

-- `\e[t;br`: the region becomes the rows t to b, from 1
abbrev pub region : ℕ → ℕ → List ℕ
region top bottom = sequence top (bottom ∷ []) 114

-- The bytes of a shift on a screen of so many rows: the band becomes the region, the cursor goes to its first row, its rows move, and
-- the whole screen becomes the region again.
abbrev pub shift_bytes : ℕ → Shift → List ℕ
shift_bytes height s =
    region (s.top + 1) (s.top + s.height)
    ++ (sequence (s.top + 1) (1 ∷ []) 72
    ++ (moving s.by
    ++ region 1 height))
