use Rattle.std.proofs.Common.{◌≡◌, true, sym, ◌+◌, ◌∙◌}
use Rattle.rd_base.specs.Classes.{is_initiator}
use Rattle.rd_explicit.proofs.Nesting.{popped, get-unmatched}
use Rattle.rd_explicit.specs.Links.{unmatched}
use Rattle.rd_explicit.proofs.links.Links.bd9_partner.Goals as goal

pub returns-then-is_initiator-clause-partner : goal.returns-then-is_initiator-clause-partner
returns-then-is_initiator-clause-partner c = λ cs same.
    let e : is_initiator c.args.class ≡ true = sym c.is_initiator.ensures ∙ c.if-is_initiator.true in
    rw e ((popped (unmatched (c.args.i + 1) cs) c.args.self.now.pdis c.pop.new.self c.pop.result same c.pop.ensures).0 ∙ get-unmatched cs (c.args.i + 1) 0)
