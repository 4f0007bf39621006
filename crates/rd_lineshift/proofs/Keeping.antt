-- The new current screen of an update that may begin with a shift.
use Rattle.std.proofs.Common.{◌≡◌, ℕ, List, length, Option, None, Some, subst, ◌∙◌, arith}
use Rattle.std.specs.Prelude.{IfSome}
use Rattle.std.proofs.lemmas.Option.{IfSome_then}
use Rattle.rd_term.specs.Pictures.{Picture, IsScreen, IsWellFormed, blank_row, width_of}
use Rattle.rd_update.specs.Laws.{IsSound}
use Rattle.rd_update.specs.Plans.{HaveOneSize}
use Rattle.rd_update.specs.Updates.{update}
use Rattle.rd_term.proofs.Shapes.{grid-width}
use Rattle.rd_update.proofs.Soundness.{sound-again, whole-again}
use Rattle.rd_lineshift.specs.Choices.{AreWithin, choice}
use Rattle.rd_lineshift.specs.Laws.{IsShift}
use Rattle.rd_lineshift.specs.Plans.{after_shift, shifted_update, shifting}
use Rattle.rd_lineshift.specs.Shifts.{shifted}
use Rattle.rd_lineshift.specs.declared.band.Band.{Band}
use Rattle.rd_lineshift.specs.declared.band.Shift.{Shift}
use Rattle.rd_lineshift.proofs.Moving.{shifted-all}
use Rattle.rd_lineshift.proofs.Reaching.{shifted-size, taken-fits}

shifted-sized : (s : Shift) (screen : Picture) → IsScreen screen → IsShift (length screen.rows) s
    → (length (shifted s screen).rows ≡ length screen.rows) × (width_of (shifted s screen).rows ≡ width_of screen.rows)
shifted-sized s screen p fits =
    let size = shifted-size (width_of screen.rows) (length screen.rows) s screen p.size fits in
    let some = p.size.row in
    (size.rows, grid-width (width_of screen.rows) (shifted s screen).rows (omega (arith, size.rows, some)) size.each)

-- what holds of the current screen, and of it shifted, holds of the screen after the shift that is taken
after : (Q : Option Picture → Type 0) (taken : Option Shift) (current : Option Picture) (target : Picture) → HaveOneSize current target → IfSome taken (λ s. IsShift (length target.rows) s)
    → Q current → ((s : Shift) → IfSome current (λ screen. IsShift (length screen.rows) s → Q (Some (shifted s screen)))) → Q (after_shift taken current)
after Q (Some s) (Some screen) target h q stays moves = moves s (rw h.0 q)
after Q taken current target h q stays moves = stays

pub after-sized : (current : Option Picture) (target : Picture) (taken : Option Shift) → HaveOneSize current target → IfSome current (λ screen. IsScreen screen)
    → IfSome taken (λ s. IsShift (length target.rows) s) → HaveOneSize (after_shift taken current) target
after-sized None target taken h p q = after (λ o. HaveOneSize o target) taken None target h q h (λ s. tt)
after-sized (Some screen) target taken h p q =
    after (λ o. HaveOneSize o target) taken (Some screen) target h q h (λ s fits. let size = shifted-sized s screen p fits in (size.0 ∙ h.0, size.1 ∙ h.1))

-- the screen that is kept
pub moved-sized : (taken : Option Shift) (current : Option Picture) (target old moved : Picture) → current ≡ Some old → (shifting taken current target).screen ≡ Some moved
    → HaveOneSize current target → IsScreen old → IfSome taken (λ s. IsShift (length target.rows) s) → HaveOneSize (Some moved) target
moved-sized None current target old moved e f h p q = absurd (cc)
moved-sized (Some s) None target old moved e f h p q = absurd (cc)
moved-sized (Some s) (Some screen) target old moved e f h p q =
    let is : old ≡ screen = cc in
    let here : IsScreen screen = subst IsScreen is p in
    subst (λ o. IfSome o (λ (m : Picture). HaveOneSize (Some m) target)) f (after-sized (Some screen) target (Some s) h here q)

-- the rows of a shifted screen are its own and blank ones
pub shifted-whole : (s : Shift) (screen : Picture) → IsScreen screen → IsWellFormed screen → IsShift (length screen.rows) s → IsWellFormed (shifted s screen)
shifted-whole s screen p whole fits =
    let v = width_of screen.rows in
    let size = shifted-sized s screen p fits in
    whole-again screen (shifted s screen) (λ P one. shifted-all P s (blank_row v) screen.rows (one v)) whole
    (omega (arith, size.0, whole.row)) (omega (arith, size.1, whole.column))

shifted-sound : (s : Shift) (screen : Picture) → IsScreen screen → IsSound screen → IsShift (length screen.rows) s → IsSound (shifted s screen)
shifted-sound s screen p sound fits =
    let v = width_of screen.rows in
    let size = shifted-sized s screen p fits in
    sound-again screen (shifted s screen) (λ P one. shifted-all P s (blank_row v) screen.rows (one v)) sound
    (omega (arith, size.0, sound.whole.row)) (omega (arith, size.1, sound.whole.column))

pub after-sound : (current : Option Picture) (target : Picture) (taken : Option Shift) → HaveOneSize current target → IfSome current (λ screen. IsScreen screen × IsSound screen)
    → IfSome taken (λ s. IsShift (length target.rows) s) → IfSome (after_shift taken current) (λ screen. IsSound screen)
after-sound current target taken h p q =
    after (λ o. IfSome o (λ screen. IsSound screen)) taken current target h q (IfSome_then current p (λ screen here. here.1))
    (λ s. IfSome_then current p (λ screen here fits. shifted-sound s screen here.0 here.1 fits))

-- ---- by the laws of updates

-- what holds of each update holds of one that may begin with a shift
pub by-updates : (P : Option Picture → Picture → Option ℕ → Type 0)
    → ((current : Option Picture) (target : Picture) (limit : Option ℕ) → HaveOneSize current target → P current target limit)
    → (current : Option Picture) (target : Picture) (bands : List Band) (limit : Option ℕ) → HaveOneSize current target → IfSome current (λ screen. IsScreen screen)
    → AreWithin (length target.rows) bands → P (after_shift (choice current target bands) current) target limit
by-updates P law current target bands limit h p within =
    let taken = choice current target bands in
    law (after_shift taken current) target limit (after-sized current target taken h p (taken-fits (length target.rows) current target bands within))

pub sound : ((current : Option Picture) (target : Picture) (limit : Option ℕ) → HaveOneSize current target → IfSome current (λ screen. IsSound screen) → IsSound target → IsSound (update current target limit).screen)
    → (current : Option Picture) (target : Picture) (bands : List Band) (limit : Option ℕ) → HaveOneSize current target → IfSome current (λ screen. IsScreen screen × IsSound screen)
    → AreWithin (length target.rows) bands → IsSound target → IsSound (shifted_update current target bands limit).screen
sound law current target bands limit h p within t =
    by-updates _ law current target bands limit h (IfSome_then current p (λ screen h. h.0)) within
    (after-sound current target (choice current target bands) h p (taken-fits (length target.rows) current target bands within)) t
