-- What the code asks of windows that move.
use Rattle.std.specs.Prelude.{◌≡◌, ℕ, ◌+◌, ◌≤◌}
use Rattle.rd_base.specs.declared.limits.TheConstants.{LAST_POSITION}
use Rattle.rd_state.specs.declared.moves.Move.{Move}
use Rattle.rd_state.specs.declared.moves.Move.TheVariants.{Inserted, Deleted, Narrowed}
use Rattle.rd_state.specs.Windows.{NumberedWindow}

-- what moves stays a position
abbrev pub IsMovable : Move → ℕ → Type 0
IsMovable (Inserted pos count) p = p + count ≤ LAST_POSITION
IsMovable (Deleted from to) p = from ≤ to
IsMovable (Narrowed from to) p = Unit {0}

-- the point and the view of a window do so, where it shows the buffer with this number
abbrev pub CanMove : ℕ → Move → NumberedWindow → Type 0
CanMove buffer how e = e.1.buffer ≡ buffer → IsMovable how e.1.point × IsMovable how e.1.anchor.pos
