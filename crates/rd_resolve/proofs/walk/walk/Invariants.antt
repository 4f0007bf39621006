use Rattle.std.proofs.Common.{◌≡◌, drop}
use Rattle.rd_base.specs.Lines.{KeepsClasses}
use Rattle.rd_resolve.specs.Places.{types_at, levels_at, put_at}
use Rattle.rd_resolve.proofs.walk.walk.Given as goal

-- what is left, done from here, is the whole done from the start
abbrev pub invariant-loop-k : goal.invariant-loop-k
invariant-loop-k g l = record {
  left : put_at (drop l.k l.seq.indexes) (g.R.WalkRules.left l.rules (types_at (drop l.k l.seq.indexes) l.line.classes)
      (types_at (drop l.k l.seq.indexes) l.line.types) (levels_at (drop l.k l.seq.indexes) l.line.levels)) l.line.types
      ≡ put_at l.seq.indexes (g.R.WalkRules.left l.fn.rules (types_at l.seq.indexes l.fn.line.classes)
      (types_at l.seq.indexes l.fn.line.types) (levels_at l.seq.indexes l.fn.line.levels)) l.fn.line.types;
  known : g.R.WalkRules.is_known l.rules (types_at (drop l.k l.seq.indexes) l.line.types);
  levels : l.line.levels ≡ l.fn.line.levels;
  keeps : KeepsClasses l.fn.line l.line;
}
