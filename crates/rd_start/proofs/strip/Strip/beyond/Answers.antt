use Rattle.std.proofs.Common.{◌≡◌, IfOk, Option, Result, sym, subst}
use Rattle.rd_base.specs.declared.memory.Memory.{Memory}
use Rattle.rd_matrix.specs.Sources.{SourceValues}
use Rattle.rd_matrix.specs.declared.block.Block.{Block}
use Rattle.rd_start.specs.Strips.{IsBeyond}
use Rattle.rd_start.specs.declared.strip.Edge.{Edge}
use Rattle.rd_start.specs.declared.strip.Edge.TheVariants.{Bottom, Top}
use Rattle.rd_start.specs.declared.strip.Strip.{Strip}
use Rattle.rd_start.proofs.Reaching.{first-among, last-among, next-beyond, prev-beyond}
use Rattle.rd_start.proofs.strip.Strip.beyond.Goals as goal

-- what is said of one edge, as it was said of the same
at-edge : (edge other : Edge) (r : Result (Option Block) Memory) (m : SourceValues) (s : Strip) → other ≡ edge → IfOk r (λ block. IsBeyond m s edge block) → IfOk r (λ block. IsBeyond m s other block)
at-edge edge other r m s is h = subst (λ (e : Edge). IfOk r (λ block. IsBeyond m s e block)) (sym is) h

pub prev-requires : goal.prev-requires
prev-requires g c = first-among (g.B.BlockSource.meaning c.args.source.now) c.args.self.now c.first.result c.requires c.first.ensures

pub returns-in-Top-clause-value : goal.returns-in-Top-clause-value
returns-in-Top-clause-value g c =
    at-edge Top c.args.edge c.prev.result (g.B.BlockSource.meaning c.args.source.now) c.args.self.now c.in-Top.is (prev-beyond c.prev.result (g.B.BlockSource.meaning c.args.source.now) c.args.self.now c.first.result c.requires c.first.ensures c.prev.ensures.prev)

pub next-requires : goal.next-requires
next-requires g c = last-among (g.B.BlockSource.meaning c.args.source.now) c.args.self.now c.last.result c.requires c.last.ensures

pub returns-in-Bottom-clause-value : goal.returns-in-Bottom-clause-value
returns-in-Bottom-clause-value g c =
    at-edge Bottom c.args.edge c.next.result (g.B.BlockSource.meaning c.args.source.now) c.args.self.now c.in-Bottom.is (next-beyond c.next.result (g.B.BlockSource.meaning c.args.source.now) c.args.self.now c.last.result c.requires c.last.ensures c.next.ensures.next)
