use Rattle.rd_dump.proofs.Writing.{prints-failed, prints-then, prints-stop, prints-fail}
use Rattle.rd_dump.proofs.dump.print_row_tokens.Goals as goal

pub returns-in_err-print_between : goal.returns-in_err-print_between
returns-in_err-print_between g c =
    let bad = c.from_residual.ensures.0 in
    prints-stop _ _ _ _ _ _ _ (prints-stop _ _ _ _ _ _ _ (prints-stop _ _ _ _ _ _ _ (prints-failed _ _ _ _ _ _ _ _ c.in_err-print_between.ensures bad) bad) bad) bad

pub returns-in_err-print_cells : goal.returns-in_err-print_cells
returns-in_err-print_cells g c =
    let bad = c.from_residual-in_err-print_cells.ensures.0 in
    prints-stop _ _ _ _ _ _ _ (prints-stop _ _ _ _ _ _ _ (prints-stop _ _ _ _ _ _ _ (prints-then _ _ _ _ _ _ _ _ _ _ (c.in_ok-print_between.ensures) (prints-fail _ _ _ _ _ _ _ c.in_err-print_cells.ensures bad)) bad) bad) bad

pub returns-in_err-print_tokens : goal.returns-in_err-print_tokens
returns-in_err-print_tokens g c =
    let bad = c.from_residual-in_err-print_tokens.ensures.0 in
    prints-stop _ _ _ _ _ _ _ (prints-stop _ _ _ _ _ _ _ (prints-then _ _ _ _ _ _ _ _ _ _ (prints-then _ _ _ _ _ _ _ _ _ _ (c.in_ok-print_between.ensures) (c.in_ok-print_cells.ensures)) (prints-fail _ _ _ _ _ _ _ c.in_err-print_tokens.ensures bad)) bad) bad

pub returns-in_err-print_runs : goal.returns-in_err-print_runs
returns-in_err-print_runs g c =
    let bad = c.from_residual-in_err-print_runs.ensures.0 in
    prints-stop _ _ _ _ _ _ _ (prints-then _ _ _ _ _ _ _ _ _ _ (prints-then _ _ _ _ _ _ _ _ _ _ (prints-then _ _ _ _ _ _ _ _ _ _ (c.in_ok-print_between.ensures) (c.in_ok-print_cells.ensures)) (c.in_ok-print_tokens.ensures)) (prints-fail _ _ _ _ _ _ _ c.in_err-print_runs.ensures bad)) bad

pub returns : goal.returns
returns g c = prints-then _ _ _ _ _ _ _ _ _ _ (prints-then _ _ _ _ _ _ _ _ _ _ (prints-then _ _ _ _ _ _ _ _ _ _ (prints-then _ _ _ _ _ _ _ _ _ _ (c.in_ok-print_between.ensures) (c.in_ok-print_cells.ensures)) (c.in_ok-print_tokens.ensures)) (c.in_ok-print_runs.ensures)) (c.print_tokens-2.ensures)
