use Rattle.std.proofs.Common.{◌≡◌, ◌≤◌, length, drop}
use Rattle.rd_text.specs.Stretches.{summary}
use Rattle.rd_text.proofs.stretch.Stretch.of.Given as goal

abbrev pub invariant-loop-at : goal.invariant-loop-at
invariant-loop-at l = (l.at ≤ length l.codes) × (l.stretch ≡ summary (drop l.at l.codes))

abbrev pub decreases-loop-at : goal.decreases-loop-at
decreases-loop-at l = l.at
