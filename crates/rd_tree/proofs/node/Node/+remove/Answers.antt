use Rattle.std.proofs.Common.{ap}
use Rattle.rd_tree.specs.Shapes.{shape}
use Rattle.rd_tree.proofs.Rooms.{room_within, parts_fill, parts_lie}
use Rattle.rd_tree.proofs.node.Node.+remove.Goals as goal

pub give_way-requires-clause-fills : goal.give_way-requires-clause-fills
give_way-requires-clause-fills t c =
    rw (c.take-rest.ensures, c.deref_mut.ensures.value) (parts_fill c.args.rect (ap shape c.in-Split.is) c.requires.room).1

pub give_way-requires-then-is_leaf_of-2-clause-fills : goal.give_way-requires-then-is_leaf_of-2-clause-fills
give_way-requires-then-is_leaf_of-2-clause-fills t c =
    rw (c.take-rest-then-is_leaf_of-2.ensures, c.deref_mut-then-is_leaf_of-2.ensures.value) (parts_fill c.args.rect (ap shape c.in-Split.is) c.requires.room).0

pub remove-requires : goal.remove-requires
remove-requires t c =
    rw (c.deref_mut-then-holds.ensures.value, c.first_part.ensures) (parts_lie c.args.rect (ap shape c.in-Split.is) c.requires.room c.requires.inside c.decreases).0

pub second_part-requires-clause-within : goal.second_part-requires-clause-within
second_part-requires-clause-within t c = (room_within _ _ _ _ c.args.rect (rw c.in-Split.is at c.requires.room)).0

pub remove-requires-else-holds : goal.remove-requires-else-holds
remove-requires-else-holds t c =
    rw (c.deref_mut-else-holds.ensures.value, c.second_part.ensures) (parts_lie c.args.rect (ap shape c.in-Split.is) c.requires.room c.requires.inside c.decreases).1
