use Rattle.std.proofs.Common.{◌≡◌, ◌++◌, drop}
use Rattle.std.specs.Prelude.{map}
use Rattle.std.specs.Borrow.{Bor}
use Rattle.rd_base.proofs.list.mapped.Given as goal

abbrev pub invariant-loop-item : goal.invariant-loop-item
invariant-loop-item g l = (made : g.row.S.Denot → g.row.T.Denot) → ((x : Bor g.row.S.Denot) (y : g.row.T.Denot) → goal.F-post g l.make x y → y ≡ made x.now)
    → l.list ++ map made (drop l.item-index l.items) ≡ map made l.items
