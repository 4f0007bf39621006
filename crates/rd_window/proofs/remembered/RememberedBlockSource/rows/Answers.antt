use Rattle.std.proofs.Common.{subst}
use Rattle.rd_matrix.specs.Sources.{IsSource}
use Rattle.rd_window.proofs.Remembering.{still-laid}
use Rattle.rd_window.proofs.remembered.RememberedBlockSource.rows.Goals as goal

pub invariant_of-self : goal.invariant_of-self
invariant_of-self g c = c.recall.ensures.left (g.B.BlockSource.meaning c.self.inside.source) c.self.invariant

pub returns-in-Some-clause-source : goal.returns-in-Some-clause-source
returns-in-Some-clause-source g c =
    subst (λ s. IsSource (g.B.BlockSource.meaning s)) c.self.view_is (c.in-Some.ensures.source (g.B.BlockSource.meaning c.self.inside.source) c.self.invariant)

pub invariant_of-self-then-self : goal.invariant_of-self-then-self
invariant_of-self-then-self g c =
    let m = g.B.BlockSource.meaning c.self.inside.source in
    still-laid m (g.B.BlockSource.meaning c.rows.new.self) c.recall.new.laid.items c.rows.ensures.stays (c.recall.ensures.left m c.self.invariant)

pub returns-in-Some-find-clause-source : goal.returns-in-Some-find-clause-source
returns-in-Some-find-clause-source g c =
    subst (λ s. IsSource (g.B.BlockSource.meaning s)) c.self.view_is (c.in-Some-find.ensures.source (g.B.BlockSource.meaning c.self.inside.source) c.self.invariant)
