use Rattle.std.proofs.Common.{◌-◌, length}
use Rattle.rd_modeline.proofs.Steps.{AreRead}
use Rattle.rd_modeline.proofs.reading.read.Given as goal

abbrev pub invariant-loop-pieces : goal.invariant-loop-pieces
invariant-loop-pieces l = AreRead l.text l.place l.pieces

abbrev pub decreases-loop-pieces : goal.decreases-loop-pieces
decreases-loop-pieces l = length l.text - l.place
