use Rattle.std.proofs.Common.{sym, ap, ◌∙◌}
use Rattle.rd_tree.specs.Shapes.{shape}
use Rattle.rd_tree.proofs.Rooms.{room_within, parts_lie, first_found, second_found}
use Rattle.rd_tree.proofs.node.Node.+find.Goals as goal

pub find-requires : goal.find-requires
find-requires t c =
    rw (c.deref.ensures, c.first_part.ensures) (parts_lie c.args.rect (ap shape c.in-Split.is) c.requires.room c.requires.inside c.decreases).0

pub second_part-requires-clause-within : goal.second_part-requires-clause-within
second_part-requires-clause-within t c = (room_within _ _ _ _ c.args.rect (rw c.in-Split.is at c.requires.room)).0

pub find-requires-in-None : goal.find-requires-in-None
find-requires-in-None t c =
    rw (c.deref-in-None.ensures, c.second_part.ensures) (parts_lie c.args.rect (ap shape c.in-Split.is) c.requires.room c.requires.inside c.decreases).1

pub returns-in-None : goal.returns-in-None
returns-in-None t c =
    let s = c.in-Split in
    let e = rw c.deref.ensures at c.find.ensures in
    rw (c.find-in-None.ensures, c.deref-in-None.ensures, c.in-Split.is)
    (sym (second_found c.args.window s.side s.size (shape s.first.value) (shape s.second.value) c.args.rect c.first_part.result c.second_part.result c.first_part.ensures c.second_part.ensures (sym e ∙ c.in-None.is)))

pub returns-in_default : goal.returns-in_default
returns-in_default t c =
    let s = c.in-Split in
    let e = rw c.deref.ensures at c.in_default.ensures in
    rw c.in-Split.is
    ((rw c.deref.ensures at c.find.ensures)
    ∙ (sym e ∙ sym (first_found c.args.window s.side s.size (shape s.first.value) (shape s.second.value) c.args.rect c.first_part.result _ c.first_part.ensures (sym e))))
