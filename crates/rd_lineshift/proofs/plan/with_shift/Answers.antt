use Rattle.std.proofs.Common.{Some, length, subst, sym}
use Rattle.rd_term.specs.Pictures.{IsWellFormed, Picture}
use Rattle.rd_update.specs.Plans.{HaveOneSize}
use Rattle.rd_lineshift.specs.Laws.{IsShift}
use Rattle.rd_lineshift.proofs.Keeping.{after-sized, shifted-whole}
use Rattle.rd_lineshift.proofs.plan.with_shift.Goals as goal

pub prepare-requires-clause-size : goal.prepare-requires-clause-size
prepare-requires-clause-size c =
    let current = c.args.current.now in
    let target = c.args.target.now in
    let size = after-sized (Some current) target (Some c.args.shift) c.requires.size c.width-old_width.ensures.screen c.requires.shift in
    subst (λ (screen : Picture). HaveOneSize (Some screen) target) (sym c.in_ok-screen.ensures) size

pub prepare-requires-clause-current : goal.prepare-requires-clause-current
prepare-requires-clause-current c =
    let current = c.args.current.now in
    let fits : IsShift (length c.args.current.now.rows) c.args.shift = rw c.requires.size.0 c.requires.shift in
    subst IsWellFormed (sym c.in_ok-screen.ensures) (shifted-whole c.args.shift current c.width-old_width.ensures.screen c.requires.current fits)
