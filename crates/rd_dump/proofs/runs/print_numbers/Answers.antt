use Rattle.std.proofs.Common.{◌<◌, length, rules}
use Rattle.rd_term.specs.Pens.{numbers_of_face}
use Rattle.rd_dump.proofs.OnePass.{numbers-step, numbers-failed}
use Rattle.rd_dump.proofs.Writing.{going-on, prints-fail}
use Rattle.rd_dump.proofs.runs.print_numbers.Goals as goal

pub returns-in_err-any : goal.returns-in_err-any
returns-in_err-any g c =
    let less : c.loop-number.number-index < length (numbers_of_face c.args.face) = search rules in
    let bad = c.from_residual.ensures.0 in
    numbers-failed _ _ _ _ _ _ _ c.loop-number.any c.loop-number.number-index _ (numbers_of_face c.args.face) _
    (prints-fail _ _ _ _ _ _ _ c.in_err-any.ensures.text bad) c.loop-number.invariant less bad (search rules)

pub loop-number-preserved : goal.loop-number-preserved
loop-number-preserved g c =
    let less : c.loop-number.number-index < length (numbers_of_face c.args.face) = search rules in
    going-on _ _ _ _ _ _ _ _ _ _ _ c.loop-number.invariant
    (numbers-step _ _ c.loop-number.number-index _ (numbers_of_face c.args.face) less (search rules) c.in_ok-any.ensures.any) c.in_ok-any.ensures.text
