-- Which shift is taken.
use Rattle.std.specs.Prelude.{ℕ, zero, suc, ◌+◌, ◌-◌, ◌≤◌, nat_le, if◌then◌else◌, ℤ, pos, neg_ℤ, List, [], ◌∷◌, All, Option, None, Some}
use Rattle.std.specs.List.{flat_map}
use Rattle.rd_term.specs.Pictures.{Picture}
use Rattle.rd_update.specs.Updates.{differing}
use Rattle.rd_lineshift.specs.Shifts.{shifted}
use Rattle.rd_lineshift.specs.declared.band.Band.{Band}
use Rattle.rd_lineshift.specs.declared.band.Shift.{Shift}
use Rattle.rd_lineshift.specs.declared.choice.TheConstants.{GAIN}

abbrev pub shift_by : Band → ℤ → Shift
shift_by band by = record { top = band.top; height = band.height; by = by }

-- the shifts of a band by n rows and by more, so many sizes: the least first, and of each size the one upward first
abbrev pub shifts_from : Band → ℕ → ℕ → List Shift
shifts_from band n zero = []
shifts_from band n (suc more) = shift_by band (pos n) ∷ shift_by band (neg_ℤ (pos n)) ∷ shifts_from band (suc n) more

-- all shifts of a band that leave one of its rows or more; a band of one row has none
abbrev pub shifts_of : Band → List Shift
shifts_of band = shifts_from band 1 (band.height - 1)

-- how many rows differ from the target after a shift
abbrev pub cost : Picture → Picture → Shift → ℕ
cost current target s = differing (shifted s current).rows target.rows

-- one of two, the second only where it costs less
abbrev pub cheaper : {A : Type 0} → (A → ℕ) → Option A → Option A → Option A
cheaper cost_of None other = other
cheaper cost_of (Some s) None = Some s
cheaper cost_of (Some s) (Some other) = if nat_le (cost_of s) (cost_of other) then Some s else Some other

-- the first of the shifts that cost the least
abbrev pub cheapest : (Shift → ℕ) → List Shift → Option Shift
cheapest cost_of [] = None
cheapest cost_of (s ∷ shifts) = cheaper cost_of (Some s) (cheapest cost_of shifts)

-- a shift that costs at least `GAIN` less than so many rows
abbrev pub if_gains : (Shift → ℕ) → ℕ → Option Shift → Option Shift
if_gains cost_of rows None = None
if_gains cost_of rows (Some s) = if nat_le (cost_of s + GAIN) rows then Some s else None

-- The shift of a known screen that is taken: of all shifts of all bands the first that costs the least, where it costs at least
-- `GAIN` less than the screen as it is.
abbrev pub choice : Option Picture → Picture → List Band → Option Shift
choice None target bands = None
choice (Some current) target bands =
    if_gains (cost current target) (differing current.rows target.rows) (cheapest (cost current target) (flat_map shifts_of bands))

-- each band lies within so many rows
abbrev pub AreWithin : ℕ → List Band → Type 0
AreWithin height bands = All (λ band. band.top + band.height ≤ height) bands
