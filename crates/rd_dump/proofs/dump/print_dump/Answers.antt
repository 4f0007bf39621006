use Rattle.std.proofs.Common.{ap}
use Rattle.rd_dump.specs.Dumps.{cursor_line}
use Rattle.rd_dump.proofs.Writing.{prints-then, prints-stop, prints-fail, prints-as}
use Rattle.rd_dump.proofs.dump.print_dump.Goals as goal

pub returns-in_err-print_rows : goal.returns-in_err-print_rows
returns-in_err-print_rows g c =
    let bad = c.from_residual-in_err-print_rows.ensures.0 in
    prints-stop _ _ _ _ _ _ _ (prints-then _ _ _ _ _ _ _ _ _ _ c.in_ok-print_windows.ensures (prints-fail _ _ _ _ _ _ _ c.in_err-print_rows.ensures bad)) bad

pub returns : goal.returns
returns g c =
    prints-then _ _ _ _ _ _ _ _ _ _ (prints-then _ _ _ _ _ _ _ _ _ _ c.in_ok-print_windows.ensures c.in_ok-print_rows.ensures) (prints-as _ _ _ _ _ _ _ (ap cursor_line c.cursor.ensures) c.print_at_once.ensures)
