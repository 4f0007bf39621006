use Rattle.std.proofs.Common.{◌≡◌, ◌≤◌, length, drop}
use Rattle.rd_explicit.specs.Links.{IsLinkedFrom, LeadsOn}
use Rattle.rd_explicit.proofs.links.Links.of_line.Given as goal

abbrev pub invariant-loop-i : goal.invariant-loop-i
invariant-loop-i l = record {
  within : l.i ≤ length l.line.classes;
  begins : length l.links.begins ≡ length l.line.classes;
  links : length l.links.links ≡ length l.line.classes;
  leads : LeadsOn (length l.line.classes) l.links.links;
  joins : IsLinkedFrom l.line.base l.i (drop l.i l.line.classes) (drop l.i l.line.levels) l.links;
}

abbrev pub decreases-loop-i : goal.decreases-loop-i
decreases-loop-i l = l.i
