use Rattle.rd_dump.specs.Dumps.{window_line}
use Rattle.rd_dump.proofs.dump.print_windows.Goals as goal

pub returns : goal.returns
returns g c = c.print_each.ensures window_line (λ sink left facts result printed. printed)
