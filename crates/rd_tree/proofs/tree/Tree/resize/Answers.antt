use Rattle.std.proofs.Common.{arith}
use Rattle.rd_tree.specs.Shapes.{shape}
use Rattle.rd_tree.specs.Held.{configuration_of}
use Rattle.rd_tree.specs.Calls.{frame_of}
use Rattle.rd_tree.proofs.Rooms.{room_needs, room_first_parts}
use Rattle.rd_tree.proofs.Validity.{resize_valid}
use Rattle.rd_tree.proofs.tree.Tree.resize.Goals as goal

pub columns-requires : goal.columns-requires
columns-requires c =
    let v = c.self.invariant in
    omega (arith, (room_needs (shape c.self.inside.root) (frame_of (configuration_of c.self.inside)) v.room).0, v.wide)

pub rows-requires : goal.rows-requires
rows-requires c =
    let v = c.self.invariant in
    omega (arith, (room_needs (shape c.self.inside.root) (frame_of (configuration_of c.self.inside)) v.room).1, v.high)

pub resize-requires-clause-parts : goal.resize-requires-clause-parts
resize-requires-clause-parts c = room_first_parts (shape c.self.inside.root) (frame_of (configuration_of c.self.inside)) c.self.invariant.room

pub invariant_of-self : goal.invariant_of-self
invariant_of-self c =
    rw (c.resize.ensures, c.whole.ensures)
    (resize_valid (configuration_of c.self.inside) c.args.width c.args.height c.self.invariant c.requires.narrow c.requires.low (omega (arith, c.columns.ensures), omega (arith, c.rows.ensures)))
