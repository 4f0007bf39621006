use Rattle.std.proofs.Common.{◌≡◌, length, drop}
use Rattle.rd_audit.specs.Cuts.{pieces}
use Rattle.rd_audit.specs.FaceRuns.{painted}
use Rattle.rd_audit.proofs.run.painted.Given as goal

abbrev pub invariant-loop-text : goal.invariant-loop-text
invariant-loop-text l = painted l.from l.cells (drop (length l.yielded) (pieces 32 l.runs)) ≡ painted 0 l.fn.cells (pieces 32 l.runs)
