use Rattle.std.proofs.Common.{◌<◌, ◌-◌, ◌++◌, ◌∙◌, [], length, take, replicate, sym, arith}
use Rattle.rd_update.proofs.Parts.{seam-row, at-replica, length-replica}
use Rattle.rd_update.proofs.plan.fill_from.Goals as goal

pub loop-row-preserved : goal.loop-row-preserved
loop-row-preserved c =
    let screen = c.args.screen.now in
    let cells = c.args.cells.now in
    let from = c.args.from in
    let row = c.loop-row.row in
    let h = c.loop-row.invariant in
    let whole = take c.args.from c.args.screen.now.rows ++ replicate (length c.args.screen.now.rows - c.args.from) c.args.cells.now in
    let n = length-replica screen.rows from cells c.requires.row in
    let there : c.loop-row.row < length c.args.screen.now.rows = omega arith in
    let here : c.loop-row.row < length whole = omega (arith, n) in
    let same = at-replica screen.rows from row cells [] h.2 there c.requires.row in (
      c.set_row.ensures.screen ∙ seam-row screen _ whole row cells h.0 (sym same) here there,
      c.set_row.ensures.width ∙ h.1,
      omega arith,
    )
