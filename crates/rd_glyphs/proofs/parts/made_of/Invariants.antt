use Rattle.std.proofs.Common.{◌≡◌, ◌++◌, ◌≤◌, drop, map, length}
use Rattle.std.specs.Borrow.{Bor}
use Rattle.rd_base.specs.declared.element.Element.{Element}
use Rattle.rd_glyphs.proofs.parts.made_of.Given as goal

abbrev pub invariant-loop-item : goal.invariant-loop-item
invariant-loop-item g l =
    ((made : g.row.T.Denot → Element) → ((x : Bor g.row.T.Denot) (e : Element) → goal.F-post g l.make x e → e ≡ made x.now)
    → l.elements.items ++ map made (drop l.item-index l.items) ≡ map made l.items)
    × (length l.elements.items ≡ l.item-index)
    × (4 ≤ l.elements.capacity)
