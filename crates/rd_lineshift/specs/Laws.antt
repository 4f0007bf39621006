-- What is known of a shift that is taken, and the law of an update that may begin with one.
use Rattle.std.specs.Prelude.{ℕ, ◌+◌, ◌<◌, ◌≤◌, Bool, true, false, ℤ, pos, negsuc, unsigned_abs, List, Option}
use Rattle.rd_term.specs.Pictures.{Picture}
use Rattle.rd_term.specs.Terminals.{Tty, feed_bytes}
use Rattle.rd_update.specs.Laws.{IsReady, IsUpdated}
use Rattle.rd_lineshift.specs.Choices.{AreWithin}
use Rattle.rd_lineshift.specs.Plans.{shifted_update}
use Rattle.rd_lineshift.specs.declared.band.Band.{Band}
use Rattle.rd_lineshift.specs.declared.band.Shift.{Shift}

abbrev pub is_up : ℤ → Bool
is_up (pos n) = true
is_up (negsuc n) = false

-- a shift within so many rows that moves by one row or more and leaves one or more of its band
pub record IsShift (height : ℕ) (s : Shift) : Type 0 where
  pub within : s.top + s.height ≤ height
  pub some : 1 ≤ unsigned_abs s.by
  pub left : unsigned_abs s.by < s.height

-- a terminal that is ready for an update with bands on it is updated by the bytes
abbrev pub ShiftLaw : Type 0
ShiftLaw = (width height : ℕ) (current : Option Picture) (target : Picture) (bands : List Band) (limit : Option ℕ) (t : Tty)
    → IsReady width height current target t → AreWithin height bands
    → IsUpdated width height (shifted_update current target bands limit) target (feed_bytes t (shifted_update current target bands limit).bytes)
