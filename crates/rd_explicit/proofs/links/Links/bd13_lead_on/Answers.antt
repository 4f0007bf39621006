use Rattle.rd_explicit.proofs.Joining.{unset-same}
use Rattle.rd_explicit.proofs.links.Links.bd13_lead_on.Goals as goal

pub returns-else-at-clause-begins : goal.returns-else-at-clause-begins
returns-else-at-clause-begins c = rw c.in-Some.is (unset-same c.args.self.now.begins c.in-Some.f c.at.result c.at.ensures c.if-at.false)
