use Rattle.std.proofs.Common.{◌<◌, length, ap, rules}
use Rattle.rd_dump.specs.Dumps.{row_line}
use Rattle.rd_dump.proofs.OnePass.{rows-step}
use Rattle.rd_dump.proofs.Writing.{going-on, going-stop, prints-as, prints-fail}
use Rattle.rd_dump.proofs.dump.print_rows.Goals as goal

pub returns-in_err-print_at_once : goal.returns-in_err-print_at_once
returns-in_err-print_at_once g c =
    let less : c.loop-row.row < length c.args.screen.now.rows = search rules in
    let bad = c.from_residual.ensures.0 in
    going-stop _ _ _ _ _ _ _ _ _ _ _ c.loop-row.invariant.1 (rows-step c.args.screen.now.rows c.loop-row.row less)
    (prints-as _ _ _ _ _ _ _ (ap (row_line c.loop-row.row) c.row.ensures.cells) (prints-fail _ _ _ _ _ _ _ c.in_err-print_at_once.ensures bad)) bad

pub loop-row-preserved : goal.loop-row-preserved
loop-row-preserved g c =
    let less : c.loop-row.row < length c.args.screen.now.rows = search rules in (
      c.height-row-end.ensures,
      going-on _ _ _ _ _ _ _ _ _ _ _ c.loop-row.invariant.1 (rows-step c.args.screen.now.rows c.loop-row.row less)
          (prints-as _ _ _ _ _ _ _ (ap (row_line c.loop-row.row) c.row.ensures.cells) c.in_ok-print_at_once.ensures),
    )
