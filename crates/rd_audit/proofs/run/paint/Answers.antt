use Rattle.std.proofs.Common.{◌+◌, length, ap, ◌∙◌, arith}
use Rattle.std.proofs.lemmas.List.{length-set}
use Rattle.std.specs.Prelude.{slice_set}
use Rattle.rd_audit.specs.FaceRuns.{painted_by}
use Rattle.rd_audit.proofs.Painting.{paint-on}
use Rattle.rd_audit.proofs.run.paint.Goals as goal

pub loop-column-preserved : goal.loop-column-preserved
loop-column-preserved c =
    let l = c.loop-column in
    let face = c.args.run.now.face in
    let set = c.set.ensures ∙ ap (slice_set l.cells l.column) c.with_face.ensures in
    let same = ap length c.set.ensures ∙ length-set l.cells l.column c.with_face.result in
    record {
      to = omega (arith, c.loop-column-test.true);
      within = omega (arith, l.invariant.within, same);
      whole = paint-on l.column (c.args.run.now.last + 1) face c.at-cell.result l.cells c.set.new.self (painted_by c.args.run.now c.args.cells.now) (omega (arith, c.loop-column-test.true)) l.invariant.within c.at-cell.ensures set l.invariant.whole;
    }
