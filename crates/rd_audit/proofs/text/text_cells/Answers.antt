use Rattle.std.proofs.Common.{◌≡◌, IfOk, subst, ◌∙◌}
use Rattle.rd_audit.proofs.Texts.{no-text, text-as}
use Rattle.rd_audit.proofs.text.text_cells.Goals as goal

pub returns-in_ok-codes-in-Ok : goal.returns-in_ok-codes-in-Ok
returns-in_ok-codes-in-Ok c =
    subst (λ cells. IfOk c.cells_from.result (λ found. found ≡ cells))
    (text-as c.args.bytes.now c.in-Ok.text.now c.as_slice.result.now c.in-Ok.ensures.cases.1 c.in-Ok.ensures.cases.0 (c.as_slice.ensures ∙ c.in_ok-codes-in-Ok.ensures))
    c.cells_from.ensures

pub returns-in-Err : goal.returns-in-Err
returns-in-Err c = no-text c.args.bytes.now c.in-Err.ensures.cases.0
