use Rattle.std.proofs.Common.{◌≡◌, ℕ, ◌-◌, length}
use Rattle.rd_matrix.specs.Sources.{IsSource, rows_at}
use Rattle.rd_reuse.specs.Views.{Names}
use Rattle.rd_reuse.proofs.Walking.{Walk}
use Rattle.rd_reuse.proofs.layout.relay.Given as goal

abbrev pub invariant-loop-alloc : goal.invariant-loop-alloc
invariant-loop-alloc g l = record {
  source : g.B.BlockSource.meaning l.source ≡ g.B.BlockSource.meaning l.fn.source;
  is : IsSource (g.B.BlockSource.meaning l.fn.source);
  walk : (place : ℕ) → Names l.fn.anchor (rows_at (g.B.BlockSource.meaning l.fn.source) l.shape) place
      → Walk (g.B.BlockSource.meaning l.fn.source) l.old l.change l.shape place l.height l.fn.steps l.block l.first l.matrix l.steps;
}

abbrev pub decreases-loop-alloc : goal.decreases-loop-alloc
decreases-loop-alloc g l = l.height - length l.matrix
