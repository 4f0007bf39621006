use Rattle.std.proofs.Common.{◌≡◌, ◌++◌, Option, drop}
use Rattle.rd_objects.specs.Texts.{runs_by}
use Rattle.rd_objects.specs.declared.run.Run.{Run}
use Rattle.rd_objects.proofs.text.runs_of.Given as goal

abbrev pub invariant-loop-run : goal.invariant-loop-run
invariant-loop-run g l = (gives : Run → Option g.row.T.Denot) → ((run : Run) (value : Option g.row.T.Denot) → goal.G-post g l.given run value → value ≡ gives run)
    → l.made ++ runs_by gives (drop l.run-index l.runs) ≡ runs_by gives l.runs
