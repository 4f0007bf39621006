use Rattle.std.proofs.Common.{◌+◌, ◌<◌, ◌≤◌, length, refl, arith, sym, ap, rules}
use Rattle.std.proofs.lemmas.List.{drop_all}
use Rattle.rd_base.specs.Faces.{plain}
use Rattle.rd_dump.specs.Dumps.{faces_of}
use Rattle.rd_dump.proofs.OnePass.{open_text, open_text-row, runs-step}
use Rattle.rd_dump.proofs.Writing.{going-start-as, going-on, going-stop, going-last, prints-as, prints-fail}
use Rattle.rd_dump.proofs.runs.print_runs.Goals as goal

pub loop-cell-init : goal.loop-cell-init
loop-cell-init g c = (refl, going-start-as _ _ _ _ (sym (open_text-row (faces_of plain c.args.cells.now))))

pub returns-in_err-run : goal.returns-in_err-run
returns-in_err-run g c =
    let l = c.loop-cell in
    let less : l.cell-index < length c.args.cells.now = search rules in
    let bad = c.from_residual.ensures.0 in
    going-stop _ _ _ _ _ _ _ _ _ _ _ l.invariant.1
    (runs-step l.run.first l.column _ l.cell-index l.run.face c.face_after.result _ c.cell-item.result c.args.cells.now less c.cell-item.is c.face_after.ensures refl refl)
    (prints-fail _ _ _ _ _ _ _ c.in_err-run.ensures.text bad) bad

pub loop-cell-preserved : goal.loop-cell-preserved
loop-cell-preserved g c =
    let l = c.loop-cell in
    let less : l.cell-index < length c.args.cells.now = search rules in (
      ap (λ k. k + 1) l.invariant.0,
      going-on _ _ _ _ _ _ _ _ _ _ _ l.invariant.1
          (runs-step l.run.first l.column _ l.cell-index l.run.face c.face_after.result _ c.cell-item.result c.args.cells.now less c.cell-item.is c.face_after.ensures c.in_ok-run.ensures.first c.in_ok-run.ensures.face)
          c.in_ok-run.ensures.text,
    )

pub returns : goal.returns
returns g c =
    let l = c.loop-cell in
    let past : length c.args.cells.now ≤ l.cell-index = omega (arith, l.auto.cell-index-end, c.loop-cell-test.false) in
    let nil = drop_all l.cell-index c.args.cells.now past in
    going-last _ _ _ _ _ _ _ _ _ l.invariant.1
    (prints-as _ _ _ _ _ _ _ (ap (λ cells. open_text l.run.first l.column l.run.face (faces_of l.run.face cells)) (sym nil)) c.print_run.ensures)
