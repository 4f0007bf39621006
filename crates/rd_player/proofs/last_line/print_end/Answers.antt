use Rattle.rd_dump.proofs.Writing.{prints-failed, prints-then}
use Rattle.rd_player.proofs.last_line.print_end.Goals as goal

pub returns-in_err-print_behind_kind : goal.returns-in_err-print_behind_kind
returns-in_err-print_behind_kind g c = prints-failed _ _ _ _ _ _ _ _ c.in_err-print_behind_kind.ensures c.from_residual.ensures.0

pub returns : goal.returns
returns g c = prints-then _ _ _ _ _ _ _ _ _ _ c.in_ok-print_behind_kind.ensures c.write_whole.ensures
