use Rattle.std.proofs.Common.{All, ap, subst, sym, ◌+◌, ◌++◌, ◌∙◌}
use Rattle.rd_base.specs.Cells.{IsColoured}
use Rattle.rd_base.specs.Faces.{plain}
use Rattle.rd_base.proofs.Colours.{plain-coloured}
use Rattle.rd_margins.specs.Cells.{IsMargin}
use Rattle.rd_margins.proofs.Whole.{beside-margin}
use Rattle.rd_margins.proofs.rows.row_margin.Goals as goal

pub returns-clause-margin : goal.returns-clause-margin
returns-clause-margin c =
    let w = c.args.widths in
    let text = c.if-row-gt0.line.1.now in
    let coloured = c.plain_lines_are_whole.ensures.coloured c.args.classes.now plain w.strings text plain-coloured in
    let string : IsMargin w.strings c.in_ok-string.string = record {
      count = c.in_ok-string.ensures.columns;
      whole = c.in_ok-string.ensures.whole;
      coloured = subst (All IsColoured) (sym c.in_ok-string.ensures.value) coloured;
    } in
    subst (IsMargin (w.numbers + w.strings)) (sym (c.in_ok-extend_from_slice.ensures.ok ∙ ap (λ cells. c.in_ok-cells.cells ++ cells) c.as_slice.ensures))
    (beside-margin w.numbers w.strings c.in_ok-cells.cells c.in_ok-string.string c.in_ok-cells.ensures.margin string)
