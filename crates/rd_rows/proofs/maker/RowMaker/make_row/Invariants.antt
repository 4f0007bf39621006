use Rattle.std.proofs.Common.{length, ◌++◌}
use Rattle.rd_rows.proofs.Walk.{Walks}
use Rattle.rd_rows.proofs.maker.RowMaker.make_row.Given as goal

abbrev pub invariant-loop-filling : goal.invariant-loop-filling
invariant-loop-filling g l =
    let left = g.E.Elements.left in
    Walks l.fn.self (left l.fn.elements) l.self (left l.elements) l.filling

abbrev pub decreases-loop-filling : goal.decreases-loop-filling
decreases-loop-filling g l = length (l.self.held ++ g.E.Elements.left l.elements)
