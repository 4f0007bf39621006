use Rattle.std.proofs.Common.{◌<◌, ◌∙◌, length, arith}
use Rattle.rd_update.proofs.Parts.{seam-row}
use Rattle.rd_update.proofs.plan.with_rows_of.Goals as goal

pub loop-row-preserved : goal.loop-row-preserved
loop-row-preserved c =
    let h = c.loop-row.invariant in
    let here : c.loop-row.row < length c.args.target.rows = omega (arith, c.requires.row) in
    let there : c.loop-row.row < length c.args.screen.rows = omega (arith, c.requires.row, c.requires.height) in (
      c.set_row.ensures.screen ∙ seam-row c.args.screen _ c.args.target.rows c.loop-row.row c.row.result.now h.0 c.row.ensures.cells here there,
      c.set_row.ensures.width ∙ h.1,
    )
