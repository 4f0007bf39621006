use Rattle.std.proofs.Common.{◌≡◌, ap, sym, ◌∙◌}
use Rattle.std.proofs.lemmas.Option.{same_Some}
use Rattle.rd_explicit.proofs.Joining.{link-leads, chain-step, end-step, chain-stop, end-stop}
use Rattle.rd_explicit.specs.declared.links.Link.{Link}
use Rattle.rd_explicit.proofs.links.Links.sequence.Goals as goal

pub loop-at-preserved : goal.loop-at-preserved
loop-at-preserved c =
    let ks = c.args.self.now.links in
    let next = c.in-Some.next in
    let inv = c.loop-at.invariant in
    record {
      within = (link-leads ks c.loop-at.at c.at.result c.at.ensures c.requires.leads inv.within next c.in-Some.is).1;
      indexes = rw c.in_ok-push-2.ensures.ok (chain-step ks c.loop-at.at c.at.result c.at.ensures c.requires.leads inv.within next c.loop-at.indexes _ c.in-Some.is inv.indexes);
      eos = end-step ks c.loop-at.at c.at.result c.at.ensures c.requires.leads inv.within next _ c.in-Some.is inv.eos;
    }

pub returns : goal.returns
returns c =
    let ks = c.args.self.now.links in
    let inv = c.loop-at.invariant in
    let same : c.at.result ≡ c.at-2.result = same_Some _ _ (sym c.at.ensures ∙ c.at-2.ensures) in
    let indexes = chain-stop ks c.loop-at.at c.at.result c.at.ensures c.requires.leads inv.within c.loop-at.indexes _ c.in_default.is inv.indexes in
    let eos = end-stop ks c.loop-at.at c.at-2.result c.at-2.ensures c.requires.leads inv.within _ (ap (λ (k : Link). k.next) (sym same) ∙ c.in_default.is) inv.eos in
    cc
