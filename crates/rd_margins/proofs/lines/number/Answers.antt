use Rattle.std.proofs.Common.{◌+◌, arith, sym, subst}
use Rattle.std.proofs.lemmas.Grind.{common_steps}
use Rattle.rd_margins.specs.Cells.{IsMargin}
use Rattle.rd_margins.proofs.Whole.{number-margin}
use Rattle.rd_margins.proofs.lines.number.Goals as goal

pub returns-clause-value : goal.returns-clause-value
returns-clause-value c = grind (arith, common_steps)

pub returns-clause-margin : goal.returns-clause-margin
returns-clause-margin c =
    subst (IsMargin (c.args.columns + 1)) (sym (returns-clause-value c)) (number-margin c.args.columns c.args.line (omega (arith, c.ranges.line.fits)))
