use Rattle.rd_term.proofs.Shapes.{whole-cleared}
use Rattle.rd_term.proofs.terminal.Terminal.clear.Goals as goal

pub invariant_of-self : goal.invariant_of-self
invariant_of-self c = rw c.clear_all.ensures (whole-cleared c.self.inside.rows.items c.self.inside.cursor c.self.inside.latest c.self.inside.region c.self.invariant)
