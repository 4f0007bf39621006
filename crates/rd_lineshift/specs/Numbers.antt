-- Rows that are numbered, so that equal rows have equal numbers.
use Rattle.std.specs.Prelude.{ℕ, suc, ◌+◌, ◌-◌, ◌*◌, ◌%◌, ◌^◌, ◌==◌, nat_le, if◌then◌else◌, List, [], ◌∷◌, take, drop, replicate, slice_index, Option, None, Some}
use Rattle.rd_base.specs.Cells.{words_of}
use Rattle.rd_base.specs.declared.cell.Cell.{Cell}
use Rattle.rd_update.specs.Updates.{differs}
use Rattle.rd_lineshift.specs.Choices.{cheaper}
use Rattle.rd_lineshift.specs.Shifts.{shifted_rows}
use Rattle.rd_lineshift.specs.declared.band.Band.{Band}
use Rattle.rd_lineshift.specs.declared.band.Shift.{Shift}
use Rattle.rd_lineshift.specs.declared.choice.Priced.{Priced}
use Rattle.rd_lineshift.specs.declared.choice.TheConstants.{GAIN}

-- the number of the first of these rows that does not differ from a row, and how many they are where each does
abbrev pub number_in : List (List Cell) → List Cell → ℕ
number_in [] row = 0
number_in (x ∷ xs) row = if differs x row then suc (number_in xs row) else 0

-- a print with one more number
abbrev pub mixed : ℕ → ℕ → ℕ
mixed print number = (print * 1099511628211 % 2 ^ 64 + number) % 2 ^ 64

-- a row's print, made of the first word of each of its cells: rows of different prints differ
abbrev pub print_from : ℕ → List Cell → ℕ
print_from print [] = print
print_from print (cell ∷ cells) = print_from (mixed print (slice_index (words_of cell) 0)) cells

-- at how many places two lists of numbers differ
abbrev pub unlike : List ℕ → List ℕ → ℕ
unlike (x ∷ xs) (y ∷ ys) = if x == y then unlike xs ys else suc (unlike xs ys)
unlike _ _ = 0

-- the cost of a shift, by the numbers of the rows of both screens and the number of a blank row
abbrev pub number_cost : List ℕ → List ℕ → ℕ → Shift → ℕ
number_cost old new blank s = unlike (shifted_rows s blank old) new

-- at how many rows two screens differ where all rows of a band but `by` stand from `into` on that stood from `from` on, and `by` blank
-- ones from `free` on
abbrev pub unlike_moved : List ℕ → List ℕ → ℕ → Band → ℕ → ℕ → ℕ → ℕ → ℕ
unlike_moved old new blank band by from into free =
    let end = band.top + band.height in
    let kept = band.height - by in
    unlike (take band.top old) (take band.top new)
    + unlike (take kept (drop from old)) (take kept (drop into new))
    + unlike (replicate by blank) (take by (drop free new))
    + unlike (drop end old) (drop end new)

-- a shift with its cost
abbrev pub priced : (Shift → ℕ) → Option Shift → Option Priced
priced cost_of None = None
priced cost_of (Some s) = Some (record { shift = s; cost = cost_of s })

-- one of two, the second only where it costs less
abbrev pub lesser : Option Priced → Option Priced → Option Priced
lesser p other = cheaper (λ priced. priced.cost) p other

-- a shift that spares `GAIN` of so many rows
abbrev pub gained : ℕ → Option Priced → Option Shift
gained rows None = None
gained rows (Some p) = if nat_le (p.cost + GAIN) rows then Some p.shift else None
