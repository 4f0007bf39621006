use Rattle.std.proofs.Common.{◌∙◌, Some, length, subst, sym, IfSome}
use Rattle.rd_lineshift.specs.Laws.{IsShift}
use Rattle.rd_lineshift.proofs.Reaching.{taken-fits}
use Rattle.rd_lineshift.proofs.plan.shifted_plan.Goals as goal

pub with_shift-requires-clause-shift : goal.with_shift-requires-clause-shift
with_shift-requires-clause-shift c =
    let target = c.args.target.now in
    let fits = taken-fits (length target.rows) (Some c.in-Some.screen.now) target c.args.bands.now c.requires.bands in
    subst (λ s. IfSome s (IsShift (length c.args.target.now.rows))) (sym c.shift_of.ensures ∙ c.in-Some-shift_of.is) fits
