use Rattle.std.proofs.Common.{refl, ap, sym, subst, ◌∙◌, ◌≡◌, true}
use Rattle.rd_rows.specs.Left.{MakerValues}
use Rattle.rd_rows.specs.Lines.{is_finished}
use Rattle.rd_rows.specs.Makers.{IsMaking}
use Rattle.rd_rows.proofs.Made.{finished-is, asked, finished-rows, makes-row, makes-whole}
use Rattle.rd_rows.proofs.maker.RowMaker.next_row.Goals as goal

pub returns-then-self-clause-row : goal.returns-then-self-clause-row
returns-then-self-clause-row g c =
    let over : is_finished c.args.self.now ≡ true = finished-is c.args.self.now true (sym (sym (ap (λ (m : MakerValues). m.finished) c.self.view_is) ∙ c.if-self.true)) in
    (over, finished-rows c.args.self.now (g.E.Elements.left c.args.elements.now) over, refl, refl, refl)

pub make_row-requires-clause-going_on : goal.make_row-requires-clause-going_on
make_row-requires-clause-going_on g c = sym (ap (λ (m : MakerValues). m.finished) c.self.view_is) ∙ c.if-self.false

pub make_row-requires-clause-line : goal.make_row-requires-clause-line
make_row-requires-clause-line g c =
    asked c.args.self.now (g.E.Elements.left c.args.elements.now) (subst IsMaking c.self.view_is c.self.invariant.1) (sym (ap (λ (m : MakerValues). m.finished) c.self.view_is) ∙ c.if-self.false) c.requires

pub returns-clause-row : goal.returns-clause-row
returns-clause-row g c = (
  makes-row c.args.self.now c.make_row.new.self (g.E.Elements.left c.args.elements.now) (g.E.Elements.left c.make_row.new.elements) c.in_ok-made.made.row c.in_ok-made.made.weight c.args.steps.now c.count.new.steps
      c.in_ok-made.ensures (sym (ap (λ (m : MakerValues). m.finished) c.self.view_is) ∙ c.if-self.false) c.count.ensures,
  c.in_ok-made.ensures.fresh,
)

pub returns-clause-whole : goal.returns-clause-whole
returns-clause-whole g c =
    makes-whole c.args.self.now c.make_row.new.self (g.E.Elements.left c.args.elements.now) (g.E.Elements.left c.make_row.new.elements) c.in_ok-made.made.row c.in_ok-made.made.weight c.in_ok-made.ensures
