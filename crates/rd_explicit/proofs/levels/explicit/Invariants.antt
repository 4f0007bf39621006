use Rattle.std.proofs.Common.{◌≡◌, ◌≤◌, ◌++◌, take, drop, All}
use Rattle.rd_base.specs.declared.limits.TheConstants.{MAX_DEPTH}
use Rattle.rd_explicit.specs.Explicit.{explicit_from, explicit, levels_of, types_of, IsReady}
use Rattle.rd_explicit.proofs.levels.explicit.Given as goal

-- what is done and what is left, from the state, are the whole
abbrev pub invariant-loop-i : goal.invariant-loop-i
invariant-loop-i l = record {
  classes : l.line.classes ≡ l.fn.line.classes;
  base : l.line.base ≡ l.base;
  levels : take l.i l.line.levels ++ levels_of (explicit_from l.base l.state (drop l.i l.line.classes)) ≡ levels_of (explicit l.base l.fn.line.classes);
  types : take l.i l.line.types ++ types_of (explicit_from l.base l.state (drop l.i l.line.classes)) ≡ types_of (explicit l.base l.fn.line.classes);
  ready : IsReady l.i l.state;
  low : All (λ v. v ≤ MAX_DEPTH) (take l.i l.line.levels);
}
