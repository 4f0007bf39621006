use Rattle.std.proofs.Common.{◌≡◌, drop}
use Rattle.rd_base.specs.Lines.{KeepsClasses}
use Rattle.rd_levels.specs.Levels.{x10_resolved}
use Rattle.rd_levels.proofs.fill.x10_resolve.Given as goal

abbrev pub invariant-loop-k : goal.invariant-loop-k
invariant-loop-k l = record {
  types : x10_resolved l.brackets l.fn.line.classes l.codes l.fn.line.levels (drop l.k l.found) l.line.types ≡ x10_resolved l.brackets l.fn.line.classes l.codes l.fn.line.levels l.found l.fn.line.types;
  levels : l.line.levels ≡ l.fn.line.levels;
  keeps : KeepsClasses l.fn.line l.line;
}
