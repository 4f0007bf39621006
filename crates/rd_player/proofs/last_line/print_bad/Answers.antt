use Rattle.std.proofs.Common.{ap, ◌++◌, codes}
use Rattle.rd_dump.proofs.Writing.{prints-as, prints-failed, prints-then}
use Rattle.rd_run.specs.Reports.{located, behind_kind}
use Rattle.rd_player.proofs.last_line.print_bad.Goals as goal

pub returns-in_err-print_located : goal.returns-in_err-print_located
returns-in_err-print_located g c lines =
    prints-as _ _ _ _ _ _ _ (ap (λ kind. located (codes "script") c.args.number kind ++ (behind_kind c.args.fault.now ++ codes "\n")) c.kind_of.ensures)
    (prints-failed _ _ _ _ _ _ _ _ c.in_err-print_located.ensures c.from_residual.ensures.0)

pub returns : goal.returns
returns g c lines =
    prints-as _ _ _ _ _ _ _ (ap (λ kind. located (codes "script") c.args.number kind ++ (behind_kind c.args.fault.now ++ codes "\n")) c.kind_of.ensures)
    (prints-then _ _ _ _ _ _ _ _ _ _ c.in_ok-print_located.ensures c.print_end.ensures)
