use Rattle.std.proofs.Common.{ap}
use Rattle.rd_tree.specs.Shapes.{shape}
use Rattle.rd_tree.proofs.Rooms.{parts_share}
use Rattle.rd_tree.proofs.node.Node.+resize.Goals as goal

pub resize-requires : goal.resize-requires
resize-requires t c =
    rw (c.deref_mut.ensures.value, c.first_part.ensures, c.first_size.ensures, c.deref.ensures)
    (parts_share c.args.rect (ap shape c.in-Split.is) c.requires.parts c.requires.needs c.requires.inside c.decreases).0

pub resize-requires-in-Split : goal.resize-requires-in-Split
resize-requires-in-Split t c =
    rw (c.deref_mut-in-Split.ensures.value, c.second_part.ensures, c.first_size.ensures, c.deref.ensures)
    (parts_share c.args.rect (ap shape c.in-Split.is) c.requires.parts c.requires.needs c.requires.inside c.decreases).1
