use Rattle.std.proofs.Common.{◌++◌, codes}
use Rattle.rd_dump.proofs.Writing.{prints-as, prints-failed, prints-then}
use Rattle.rd_run.specs.Reports.{located}
use Rattle.rd_player.proofs.last_line.print_bad_data.Goals as goal

pub returns-in_err-print_located : goal.returns-in_err-print_located
returns-in_err-print_located g c lines =
    prints-as _ _ _ _ _ _ _ (λ i. located (c.file_word.ensures i) c.args.number (c.data_kind.ensures i) ++ codes "\n")
    (prints-failed _ _ _ _ _ _ _ _ c.in_err-print_located.ensures c.from_residual.ensures.0)

pub returns : goal.returns
returns g c lines =
    prints-as _ _ _ _ _ _ _ (λ i. located (c.file_word.ensures i) c.args.number (c.data_kind.ensures i) ++ codes "\n")
    (prints-then _ _ _ _ _ _ _ _ _ _ c.in_ok-print_located.ensures c.write_whole.ensures)
