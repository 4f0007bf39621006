-- An update that may begin with a shift, and what is prepared for it.
use Rattle.std.specs.Prelude.{ℕ, List, [], ◌++◌, length, Option, None, Some}
use Rattle.rd_term.specs.Pictures.{Picture}
use Rattle.rd_update.specs.Plans.{Prepared, planned}
use Rattle.rd_update.specs.Updates.{Update, update}
use Rattle.rd_lineshift.specs.Choices.{choice}
use Rattle.rd_lineshift.specs.Shifts.{shifted, shift_bytes}
use Rattle.rd_lineshift.specs.declared.band.Band.{Band}
use Rattle.rd_lineshift.specs.declared.band.Shift.{Shift}

-- the bytes of a shift that is taken, on a screen of so many rows
abbrev pub opening : ℕ → Option Shift → List ℕ
opening height None = []
opening height (Some s) = shift_bytes height s

-- the current screen after a shift that is taken
abbrev pub after_shift : Option Shift → Option Picture → Option Picture
after_shift (Some s) (Some screen) = Some (shifted s screen)
after_shift _ current = current

-- The update: the bytes of the shift that is taken, whatever the limit is, and then those that lead from the shifted screen to the
-- target. The limit counts the rows that differ after the shift.
abbrev pub shifted_update : Option Picture → Picture → List Band → Option ℕ → Update
shifted_update current target bands limit =
    let taken = choice current target bands in
    let rest = update (after_shift taken current) target limit in
    record rest { bytes = opening (length target.rows) taken ++ rest.bytes }

-- what is prepared: the bytes of the shift, the shifted screen where a shift is taken, and the update from there
pub record Shifting : Type 0 where
  pub opening : List ℕ
  pub screen : Option Picture
  pub plan : Prepared

abbrev pub shifting : Option Shift → Option Picture → Picture → Shifting
shifting None current target = record { opening = []; screen = None; plan = planned current target }
shifting (Some s) current target = record {
  opening = shift_bytes (length target.rows) s;
  screen = after_shift (Some s) current;
  plan = planned (after_shift (Some s) current) target;
}

abbrev pub shifted_planned : Option Picture → Picture → List Band → Shifting
shifted_planned current target bands = shifting (choice current target bands) current target
