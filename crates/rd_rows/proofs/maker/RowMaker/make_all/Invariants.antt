use Rattle.std.proofs.Common.{length}
use Rattle.rd_rows.specs.Lines.{rows_left}
use Rattle.rd_rows.proofs.All.{Collects}
use Rattle.rd_rows.proofs.maker.RowMaker.make_all.Given as goal

abbrev pub invariant-loop-rows : goal.invariant-loop-rows
invariant-loop-rows g l =
    let left = g.E.Elements.left in
    Collects l.fn.self (left l.fn.elements) l.fn.steps l.self (left l.elements) l.steps l.rows.items

abbrev pub decreases-loop-rows : goal.decreases-loop-rows
decreases-loop-rows g l = length (rows_left l.self (g.E.Elements.left l.elements))
