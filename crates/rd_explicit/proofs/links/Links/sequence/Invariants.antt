use Rattle.std.proofs.Common.{◌≡◌, ◌<◌, ◌+◌, ◌-◌, ◌∷◌, ◌++◌, length, drop}
use Rattle.rd_explicit.specs.Links.{link_at, chain, chain_end}
use Rattle.rd_explicit.proofs.links.Links.sequence.Given as goal

abbrev pub invariant-loop-at : goal.invariant-loop-at
invariant-loop-at l = record {
  within : l.at < length l.self.links;
  indexes : l.indexes ++ chain (l.at + 1) (link_at l.self.links l.at).next (drop (l.at + 1) l.self.links)
      ≡ l.i ∷ chain (l.i + 1) (link_at l.self.links l.i).next (drop (l.i + 1) l.self.links);
  eos : chain_end (link_at l.self.links l.at).eos (l.at + 1) (link_at l.self.links l.at).next (drop (l.at + 1) l.self.links)
      ≡ chain_end (link_at l.self.links l.i).eos (l.i + 1) (link_at l.self.links l.i).next (drop (l.i + 1) l.self.links);
}

abbrev pub decreases-loop-at : goal.decreases-loop-at
decreases-loop-at l = length l.self.links - l.at
