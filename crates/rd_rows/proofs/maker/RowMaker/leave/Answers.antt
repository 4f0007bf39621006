use Rattle.std.proofs.Common.{◌≡◌, ◌≤◌, ◌∷◌, ◌++◌, length, drop, arith, true, false, ap, sym, subst, ◌∙◌}
use Rattle.rd_base.specs.Elements.{AreSound}
use Rattle.rd_rows.specs.Cuts.{ends_some}
use Rattle.rd_rows.specs.Left.{MakerValues}
use Rattle.rd_rows.specs.Makers.{IsMaking}
use Rattle.rd_rows.proofs.Waiting.{leaves-by, left-making}
use Rattle.rd_rows.proofs.maker.RowMaker.leave.Goals as goal
use Rattle.rd_rows.proofs.maker.RowMaker.leave.Goals.{After-leave_at}

-- what waits once the elements behind the break, the one that did not fit and those that waited before were joined
waits : (c : goal.After-leave_at) → IsMaking (record { cutting = c.self.inside.cutting; spot = c.leave_at.new.self.spot; continued = true; held = c.extend_from_slice.new.self; finished = c.self.inside.finished })
waits c =
    let v = c.self.view_is in
    let i = c.self.inside in
    left-making i.cutting i.spot c.leave_at.new.self.spot i.continued true i.finished i.finished c.args.filling.waiting c.push.new.self c.extend_from_slice.new.self c.split_at.result.1.now (drop i.next i.held)
    c.args.element c.self.invariant.1
    (subst (λ (m : MakerValues). AreSound (c.args.filling.waiting ++ c.args.element ∷ m.held)) (sym v) c.requires.sound)
    (subst (λ (m : MakerValues). ends_some (c.args.filling.waiting ++ c.args.element ∷ m.held) ≡ false) (sym v) c.requires.on)
    (subst (λ (m : MakerValues). length (c.args.filling.waiting ++ c.args.element ∷ m.held) ≤ 400) (sym v) c.requires.few)
    c.in_ok-push.ensures.ok c.in_ok-extend_from_slice.ensures.ok (c.split_at.ensures.back ∙ ap (drop i.next) c.as_slice.ensures)

pub invariant_of-self : goal.invariant_of-self
invariant_of-self c = (omega arith, waits (goal.at.invariant_of-self c).After-leave_at)

pub invariant_of-self-2 : goal.invariant_of-self-2
invariant_of-self-2 c = (omega arith, waits (goal.at.invariant_of-self-2 c).After-leave_at)

pub returns : goal.returns
returns c = λ lead start xs f.
    let v = c.self.view_is in
    let i = c.self.inside in
    leaves-by c.args.self.now _ lead start xs c.args.element c.args.filling c.leave_at.new.self i.cutting c.push.new.self c.extend_from_slice.new.self c.split_at.result.1.now c.is_none.result c.in_ok-row.row
    f (c.leave_at.ensures.left c.args.self.now.cutting.shape lead start xs c.args.filling.waiting f.draft f.noted)
    c.in_ok-push.ensures.ok c.in_ok-extend_from_slice.ensures.ok (c.split_at.ensures.back ∙ (ap (drop i.next) c.as_slice.ensures ∙ ap (λ (m : MakerValues). m.held) v)) c.is_none.ensures
    (ap (λ (m : MakerValues). m.cutting) v) c.in_ok-row.ensures
    (ap (λ (m : MakerValues). let y : MakerValues = record { cutting = m.cutting; spot = c.leave_at.new.self.spot; continued = true; held = c.extend_from_slice.new.self; finished = m.finished } in y) v)
