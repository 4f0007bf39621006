use Rattle.std.proofs.Common.{refl, subst₂, sym}
use Rattle.rd_layout.specs.Screens.{laid_out}
use Rattle.rd_layout.proofs.Sending.{sized}
use Rattle.rd_update.specs.Plans.{HaveOneSize}
use Rattle.rd_session.proofs.redisplay.send.Goals as goal

pub after-requires-clause-size : goal.after-requires-clause-size
after-requires-clause-size g c =
    let v = c.args.views.now in
    let valid = c.views_are_known.ensures.state in
    let size = c.targets_are_sound.ensures.size v.files v.state valid in
    let frame = valid.frame in
    let both = sized v.state c.args.screen.now (laid_out v.files v.state).picture frame.narrow frame.low c.requires.current size in
    subst₂ HaveOneSize (sym c.take-current.ensures.value) (sym c.requires.target) both.0

-- a fault is the one outcome that is left out
pub returns-in-Err-clause-kept : goal.returns-in-Err-clause-kept
returns-in-Err-clause-kept g c = λ no. absurd (no refl)
