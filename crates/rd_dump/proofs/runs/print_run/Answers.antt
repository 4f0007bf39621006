use Rattle.std.proofs.Common.{◌≡◌, false, rules}
use Rattle.rd_base.specs.Faces.{plain}
use Rattle.rd_base.specs.Equals.{same_face}
use Rattle.rd_dump.proofs.OnePass.{run_text-last}
use Rattle.rd_dump.proofs.Writing.{prints-failed, prints-then, prints-as}
use Rattle.rd_dump.proofs.runs.print_run.Goals as goal

pub returns-in_err-print_tokens : goal.returns-in_err-print_tokens
returns-in_err-print_tokens g c =
    let shown : same_face c.args.face plain ≡ false = search rules in
    prints-as _ _ _ _ _ _ _ (run_text-last c.args.first c.args.end c.last_before.result c.args.face shown c.last_before.ensures)
    (prints-failed _ _ _ _ _ _ _ _ c.in_err-print_tokens.ensures c.from_residual.ensures.0)

pub returns : goal.returns
returns g c =
    let shown : same_face c.args.face plain ≡ false = search rules in
    prints-as _ _ _ _ _ _ _ (run_text-last c.args.first c.args.end c.last_before.result c.args.face shown c.last_before.ensures)
    (prints-then _ _ _ _ _ _ _ _ _ _ c.in_ok-print_tokens.ensures c.print_numbers.ensures)
