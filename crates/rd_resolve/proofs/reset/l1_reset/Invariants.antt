use Rattle.std.proofs.Common.{◌≡◌, ◌≤◌, length, take, drop}
use Rattle.rd_base.specs.Lines.{KeepsClasses}
use Rattle.rd_resolve.specs.Implicit.{l1_resets, l1}
use Rattle.rd_resolve.proofs.reset.l1_reset.Given as goal

-- the end is done, the front is as it was
abbrev pub invariant-loop-i : goal.invariant-loop-i
invariant-loop-i l = record {
  within : l.i ≤ length l.line.classes;
  white : l.white ≡ l1_resets (drop l.i l.line.classes);
  done : drop l.i l.line.levels ≡ l1 l.base (drop l.i l.line.classes) (drop l.i l.fn.line.levels);
  left : take l.i l.line.levels ≡ take l.i l.fn.line.levels;
  base : l.base ≡ l.line.base;
  types : l.line.types ≡ l.fn.line.types;
  keeps : KeepsClasses l.fn.line l.line;
}

abbrev pub decreases-loop-i : goal.decreases-loop-i
decreases-loop-i l = l.i
