-- What of a text stands where it stood: what ends before a head, and, moved by some positions, what starts at a tail or later.
use Rattle.std.specs.Prelude.{◌≡◌, ℕ, ◌+◌, ◌≤◌, min, max, nat_le, Bool, true, ◌==◌, ◌&&◌, ◌||◌, if◌then◌else◌, ℤ, pos, negsuc, ◌+ℤ◌, ◌-ℤ◌, int_le}
use Rattle.std.specs.Ordering.{int_eq}
use Rattle.rd_base.specs.Lists.{moved}
use Rattle.rd_base.specs.declared.limits.TheConstants.{LAST_POSITION}
use Rattle.rd_reuse.specs.declared.change.Change.{Change}

-- nothing changed
abbrev pub none : Change
none = record { head = LAST_POSITION; tail = 0; added = pos 0 }

-- whether nothing changed
abbrev pub is_none : Change → Bool
is_none c = (c.head == LAST_POSITION) && (c.tail == 0) && int_eq c.added (pos 0)

-- anything may have changed
abbrev pub all : Change
all = record { head = 0; tail = LAST_POSITION; added = pos 0 }

abbrev pub is_all : Change → Bool
is_all c = (c.head == 0) && (c.tail == LAST_POSITION) && int_eq c.added (pos 0)

-- whether a number has the 64 bits of a signed one
abbrev pub is_small : ℤ → Bool
is_small added = int_le (negsuc 9223372036854775807) added && int_le added (pos 9223372036854775807)

-- the parts of a change are positions and a number of 64 bits
pub record IsChange (c : Change) : Type 0 where
  pub head : c.head ≤ LAST_POSITION
  pub tail : c.tail ≤ LAST_POSITION
  pub added : is_small c.added ≡ true

-- a change of these parts; anything may have changed where the tail is behind the last position or the number is too great
abbrev pub change_of : ℕ → ℕ → ℤ → Change
change_of head tail added =
    if nat_le tail LAST_POSITION && is_small added then record { head = head; tail = tail; added = added } else all

-- so many positions from one on were removed, and so many put there. What stands just behind them counts as changed, since
-- strings can move there
abbrev pub edit : ℕ → ℕ → ℕ → Change
edit from removed added = change_of from (from + added + 1) (pos added -ℤ pos removed)

-- a change and a later one: what stands as it did through both
abbrev pub join : Change → Change → Change
join c later =
    if is_all c || is_all later
    then all
    else change_of (min c.head later.head) (max (moved later.added c.tail) later.tail) (c.added +ℤ later.added)
