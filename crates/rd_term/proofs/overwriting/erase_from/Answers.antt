use Rattle.std.proofs.Common.{◌-◌, ◌∙◌, replicate, Some, ap, arith}
use Rattle.rd_term.specs.Pictures.{blank}
use Rattle.rd_term.specs.Overwriting.{overwritten}
use Rattle.rd_term.proofs.Cutting.{refilled-same}
use Rattle.rd_term.proofs.overwriting.erase_from.Goals as goal

pub returns : goal.returns
returns c =
    let row = c.args.row.now in
    let column = c.args.column in
    c.fill.ensures
    ∙ refilled-same row c.cut.new.row column c.len-end.result (Some blank) (omega (arith, c.requires, c.len-end.ensures)) (omega (arith, c.len-end.ensures)) c.cut.ensures
    ∙ ap (λ k. overwritten column (replicate (k - column) (Some blank)) row) c.len-end.ensures
