use Rattle.std.proofs.Common.{◌≡◌, ◌≤◌, drop}
use Rattle.rd_base.specs.Classes.{p2_p3_first_strong}
use Rattle.rd_explicit.specs.Isolates.{inside}
use Rattle.rd_explicit.specs.Explicit.{x5c_starts_right, is_level_one}
use Rattle.rd_explicit.proofs.isolate.x5c_starts_right.Given as goal

-- what is left, from here, tells what the whole tells
abbrev pub invariant-loop-class : goal.invariant-loop-class
invariant-loop-class l = record {
  left : is_level_one (p2_p3_first_strong l.depth (inside (drop l.class-index l.rest) l.depth)) ≡ x5c_starts_right l.rest;
  deep : l.depth ≤ l.class-index;
}
