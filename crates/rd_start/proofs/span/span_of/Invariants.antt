use Rattle.std.proofs.Common.{◌≡◌, take}
use Rattle.std.specs.List.{flat_map}
use Rattle.rd_start.specs.Chosen.{first_covered}
use Rattle.rd_start.specs.Strips.{span_of}
use Rattle.rd_start.proofs.span.span_of.Given as goal

abbrev pub invariant-loop-begin : goal.invariant-loop-begin
invariant-loop-begin l = l.span ≡ span_of (flat_map (first_covered l.start) (take l.begin-index l.begins))
