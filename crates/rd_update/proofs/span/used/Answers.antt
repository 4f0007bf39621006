use Rattle.std.proofs.Common.{ℕ, ◌-◌, ◌∙◌, length, get_or, rules, arith}
use Rattle.rd_base.specs.Equals.{same_cell}
use Rattle.rd_term.specs.Pictures.{blank, blank_row}
use Rattle.rd_update.proofs.Comparing.{used-back}
use Rattle.rd_update.proofs.Spans.{end_within}
use Rattle.rd_update.proofs.span.used.Goals as goal

pub back_while-requires : goal.back_while-requires
back_while-requires c = λ place some up. search (rules, arith)

pub returns : goal.returns
returns c =
    let row = c.args.row.now in
    c.back_while.ensures.value (λ (column : ℕ). same_cell blank (get_or row (column - 1) blank)) (λ column answer some up told. search rules)
    ∙ used-back row (length row) (end_within same_cell (blank_row (length row)) row) (omega arith)
