use Rattle.std.proofs.Common.{Some, sym, ◌∙◌}
use Rattle.rd_tree.specs.Held.{configuration_of}
use Rattle.rd_tree.proofs.Standing.{lies_in_frame}
use Rattle.rd_tree.proofs.tree.Tree.rect.Goals as goal

pub returns-clause-inside : goal.returns-clause-inside
returns-clause-inside c =
    let frame = rw (← c.self.view_is) at c.frame.ensures in
    let found = sym (rw frame at c.find.ensures) ∙ c.in_ok-placed.was in
    rw (← c.self.view_is) (lies_in_frame (configuration_of c.self.inside) (Some c.in_ok-placed.placed) c.args.window c.self.invariant found)
