use Rattle.std.proofs.Common.{◌++◌, ◌-◌, ◌∙◌, List, length, take, replicate, ap, sym}
use Rattle.rd_base.specs.declared.cell.Cell.{Cell}
use Rattle.rd_term.specs.Pictures.{Picture, width_of, blank_row}
use Rattle.rd_update.proofs.Parts.{drop-blanks}
use Rattle.rd_update.proofs.plan.with_blanks.Goals as goal

pub returns : goal.returns
returns c =
    let target = c.args.target in
    let from = c.args.from in
    let cells = c.first_blanks-blank.ensures ∙ ap blank_row c.width.ensures.value in
    let blanks = ap (λ (xs : List Cell). take from target.rows ++ replicate (length target.rows - from) xs) cells
    ∙ ap (λ xs. take from target.rows ++ xs) (sym (drop-blanks target.rows from (width_of target.rows) c.width.ensures.screen.size.each)) in
    c.place.ensures
    ∙ ap (λ (s : Picture). let t : Picture = record s { row = 0; column = 0 } in t) c.fill_from.ensures.screen
    ∙ ap (λ xs. let t : Picture = record { rows = xs; row = 0; column = 0 } in t) blanks
