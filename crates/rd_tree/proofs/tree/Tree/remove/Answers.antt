use Rattle.std.proofs.Common.{sym, ◌∙◌}
use Rattle.rd_tree.specs.Held.{configuration_of}
use Rattle.rd_tree.proofs.Validity.{remove_valid}
use Rattle.rd_tree.proofs.tree.Tree.remove.Goals as goal

pub invariant_of-self : goal.invariant_of-self
invariant_of-self c =
    let frame = rw (← c.self.view_is) at c.frame-rect.ensures in
    rw (c.remove.ensures.shape, frame)
    (remove_valid (configuration_of c.self.inside) c.args.window c.self.invariant (sym c.holds.ensures ∙ c.if-not-holds.false) (sym c.is_single.ensures ∙ c.if-is_single.false))
