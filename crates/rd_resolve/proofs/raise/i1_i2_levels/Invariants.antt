use Rattle.std.proofs.Common.{◌≡◌, ◌++◌, take, drop}
use Rattle.rd_base.specs.Lines.{KeepsClasses}
use Rattle.rd_resolve.specs.Implicit.{i1_i2, kept}
use Rattle.rd_resolve.proofs.raise.i1_i2_levels.Given as goal

-- what is done and what is left are the whole
abbrev pub invariant-loop-i : goal.invariant-loop-i
invariant-loop-i l = record {
  levels : take l.i l.line.levels ++ kept l.before (drop l.i l.line.classes) (i1_i2 (drop l.i l.line.types) (drop l.i l.line.levels))
      ≡ kept l.fn.line.base l.fn.line.classes (i1_i2 l.fn.line.types l.fn.line.levels);
  left : drop l.i l.line.levels ≡ drop l.i l.fn.line.levels;
  types : l.line.types ≡ l.fn.line.types;
  keeps : KeepsClasses l.fn.line l.line;
}
