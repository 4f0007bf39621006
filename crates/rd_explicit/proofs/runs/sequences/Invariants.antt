use Rattle.std.proofs.Common.{◌≡◌, ◌++◌, drop}
use Rattle.rd_explicit.specs.Links.{gathered}
use Rattle.rd_explicit.proofs.runs.sequences.Given as goal

-- what is found and what is left are the whole
abbrev pub invariant-loop-i : goal.invariant-loop-i
invariant-loop-i l =
    l.found ++ gathered l.before l.i (drop l.i l.line.classes) (drop l.i l.line.levels) (drop l.i l.links.links) (drop l.i l.links.begins)
    ≡ gathered l.line.base 0 l.line.classes l.line.levels l.links.links l.links.begins
