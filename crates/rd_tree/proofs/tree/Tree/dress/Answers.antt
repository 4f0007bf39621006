use Rattle.std.proofs.Common.{◌≡◌, true, refl, sym, ◌∙◌}
use Rattle.rd_tree.specs.Calls.{frame_of}
use Rattle.rd_tree.specs.Held.{configuration_of}
use Rattle.rd_tree.specs.Windows.{fits, holds, dressed}
use Rattle.rd_tree.proofs.Answering.{dressed_room, changed_small, changed_done}
use Rattle.rd_tree.proofs.Validity.{changed_valid}
use Rattle.rd_tree.proofs.tree.Tree.dress.Goals.{After-has_room}
use Rattle.rd_tree.proofs.tree.Tree.dress.Goals as goal

-- the window is among the windows, and all have room where it has room
taken : (c : goal.After-has_room)
    → (holds c.args.window.number c.args.self.now.windows ≡ true) × (fits (dressed c.args.window c.args.self.now.windows) (frame_of c.args.self.now) ≡ c.has_room.result)
taken c =
    let room = dressed_room c.args.self.now c.args.window c.trees_are_valid.ensures.room c.requires in
    (room.0, room.1 ∙ sym c.has_room.ensures)

pub returns-then-not-has_room : goal.returns-then-not-has_room
returns-then-not-has_room c =
    let t = taken (goal.at.returns-then-not-has_room c).After-has_room in
    (refl, changed_small c.args.self.now (dressed c.args.window c.args.self.now.windows) (t.1 ∙ c.if-not-has_room.true))

pub invariant_of-self : goal.invariant_of-self
invariant_of-self c =
    let t = rw (← c.self.view_is) at (taken (goal.at.invariant_of-self c).After-has_room) in
    rw (c.replace.ensures, c.leaf_of.ensures)
    (changed_valid (configuration_of c.self.inside) c.args.window.number (λ _ _. c.args.window.mode) (λ _ _. c.args.window.margins) c.self.invariant t.0 (t.1 ∙ c.if-not-has_room.false))

pub returns : goal.returns
returns c =
    let t = rw (← c.self.view_is) at (taken (goal.at.returns c).After-has_room) in
    let tree = configuration_of c.self.inside in
    rw (← c.self.view_is, c.replace.ensures, c.leaf_of.ensures) (changed_done tree (dressed c.args.window tree.windows) (t.1 ∙ c.if-not-has_room.false))
