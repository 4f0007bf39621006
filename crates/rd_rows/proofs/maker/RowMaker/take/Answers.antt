use Rattle.std.proofs.Common.{◌-◌, ◌++◌, length, arith, ap, sym, ◌∙◌}
use Rattle.std.proofs.lemmas.List.{length-drop}
use Rattle.rd_rows.specs.Left.{MakerValues}
use Rattle.rd_rows.proofs.Waiting.{taken-making, taken-less, taken-next}
use Rattle.rd_rows.proofs.maker.RowMaker.take.Goals as goal

pub invariant_of-self : goal.invariant_of-self
invariant_of-self g c =
    let below = c.if-self-len.true in
    let len = c.len.ensures in
    (omega (arith, below, len), taken-making c.self.inside.cutting c.self.inside.spot c.self.inside.continued c.self.inside.finished c.self.inside.held c.self.inside.next c.at-element.result c.at-element.ensures c.self.invariant.1)

pub returns-then-self-len-clause-next : goal.returns-then-self-len-clause-next
returns-then-self-len-clause-next g c =
    ap (λ (m : MakerValues). m.held ++ g.E.Elements.left c.args.elements.now) (sym c.self.view_is) ∙ taken-next c.self.inside.held (g.E.Elements.left c.args.elements.now) c.self.inside.next c.at-element.result c.at-element.ensures

pub returns-then-self-len-clause-making : goal.returns-then-self-len-clause-making
returns-then-self-len-clause-making g c =
    taken-making c.self.inside.cutting c.self.inside.spot c.self.inside.continued c.self.inside.finished c.self.inside.held c.self.inside.next c.at-element.result c.at-element.ensures c.self.invariant.1

pub returns-then-self-len-clause-less : goal.returns-then-self-len-clause-less
returns-then-self-len-clause-less g c =
    taken-less c.self.inside.held c.self.inside.next c.at-element.result c.at-element.ensures ∙ ap (λ (m : MakerValues). length m.held - 1) c.self.view_is

pub returns-clause-less : goal.returns-clause-less
returns-clause-less g c =
    let past = c.if-self-len.false in
    let len = c.len.ensures in
    let size = length-drop c.self.inside.next c.self.inside.held in
    let held = ap (λ (m : MakerValues). length m.held) c.self.view_is in
    omega (arith, past, len, size, held)
