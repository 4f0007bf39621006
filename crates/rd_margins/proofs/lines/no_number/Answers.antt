use Rattle.std.proofs.Common.{◌≡◌, sym, subst}
use Rattle.std.proofs.lemmas.Result.{IfOk-weaker}
use Rattle.rd_base.specs.Faces.{plain}
use Rattle.rd_base.specs.Glyphs.{blanks}
use Rattle.rd_margins.specs.Cells.{IsMargin}
use Rattle.rd_margins.proofs.Whole.{blanks-margin}
use Rattle.rd_margins.proofs.lines.no_number.Goals as goal

pub returns-clause-margin : goal.returns-clause-margin
returns-clause-margin c =
    IfOk-weaker c.filled.result (λ cells. cells ≡ blanks c.args.columns plain) (λ cells. IsMargin c.args.columns cells)
    (λ cells e. subst (IsMargin c.args.columns) (sym e) (blanks-margin c.args.columns)) c.filled.ensures
