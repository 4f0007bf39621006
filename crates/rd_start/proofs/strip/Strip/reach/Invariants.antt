use Rattle.std.proofs.Common.{◌≡◌, ◌-◌, length}
use Rattle.rd_start.proofs.Reaching.{Grown}
use Rattle.rd_start.proofs.strip.Strip.reach.Given as goal

abbrev pub invariant-growing : goal.invariant-growing
invariant-growing g l = record {
  source : g.B.BlockSource.meaning l.source ≡ g.B.BlockSource.meaning l.fn.source;
  grown : Grown l.fn.edge (g.B.BlockSource.meaning l.fn.source) l.fn.self l.self l.fn.steps l.steps l.fn.count;
}

abbrev pub decreases-growing : goal.decreases-growing
decreases-growing g l = length (g.B.BlockSource.meaning l.source).blocks - length l.self.blocks.items
