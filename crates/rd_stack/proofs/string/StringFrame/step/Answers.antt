use Rattle.std.proofs.Common.{sym, ap, ◌∙◌, rules}
use Rattle.rd_items.specs.Pieces.{scene_of}
use Rattle.rd_stack.proofs.Strings.{row-over, part-step}
use Rattle.rd_stack.specs.declared.part.Place.{Place}
use Rattle.rd_stack.proofs.string.StringFrame.step.Goals as goal

pub returns : goal.returns
returns c =
    sym c.self.view_is
    ∙ row-over (scene_of c.self.inside.around.view) c.self.inside.around.base c.self.inside.around.replaced c.self.inside.around.origin c.self.inside.around.under c.place_of-place.result.face
    c.self.inside.text.now c.self.inside.parts c.self.inside.order.turns c.self.inside.end c.len.result c.element_of-end.result c.args.few.now _
    c.in_default.ensures.turns.0 c.len.ensures c.if-self-len.false (ap (λ (p : Place). p.face) c.place_of-place.ensures) c.element_of-end.ensures c.requires
    (c.drop.view_is ∙ c.in_ok-self-inside.ensures)

pub returns-in-Some : goal.returns-in-Some
returns-in-Some c =
    let around = c.self.inside.around in
    let part = c.get-part.result.now in
    let step = part-step (scene_of around.view) around.base around.replaced around.origin part.kind c.in-Some.turn.odd part.face c.kind_step.new.few c.kind_step.result c.kind_step.ensures in
    search rules
