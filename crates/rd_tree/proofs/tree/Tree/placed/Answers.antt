use Rattle.std.proofs.Common.{sym}
use Rattle.rd_tree.specs.Held.{configuration_of}
use Rattle.rd_tree.proofs.Standing.{stands_in_frame}
use Rattle.rd_tree.proofs.tree.Tree.placed.Goals as goal

pub returns-clause-inside : goal.returns-clause-inside
returns-clause-inside c =
    let frame = rw (← c.self.view_is) at c.frame.ensures in
    rw (← c.self.view_is) (stands_in_frame (configuration_of c.self.inside) c.find.result c.args.window c.self.invariant (sym (rw frame at c.find.ensures)))
