-- The parts of what is prepared.
use Rattle.std.proofs.Common.{◌≡◌, length, Option, None, Some, refl}
use Rattle.rd_term.specs.Pictures.{Picture}
use Rattle.rd_update.specs.Plans.{planned}
use Rattle.rd_lineshift.specs.Plans.{after_shift, opening, shifting}
use Rattle.rd_lineshift.specs.declared.band.Shift.{Shift}

pub plan-is : (taken : Option Shift) (current : Option Picture) (target : Picture) → (shifting taken current target).plan ≡ planned (after_shift taken current) target
plan-is None current target = refl
plan-is (Some s) current target = refl

pub opening-is : (taken : Option Shift) (current : Option Picture) (target : Picture) → (shifting taken current target).opening ≡ opening (length target.rows) taken
opening-is None current target = refl
opening-is (Some s) current target = refl
