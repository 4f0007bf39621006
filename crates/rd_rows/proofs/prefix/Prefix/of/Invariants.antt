use Rattle.std.proofs.Common.{drop}
use Rattle.rd_rows.proofs.Fitting.{Fitting}
use Rattle.rd_rows.proofs.prefix.Prefix.of.Given as goal

abbrev pub invariant-loop-element : goal.invariant-loop-element
invariant-loop-element l = Fitting l.half l.elements (drop l.element-index l.elements) l.placed l.columns
