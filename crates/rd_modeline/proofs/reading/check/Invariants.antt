use Rattle.std.proofs.Common.{◌-◌, length, List}
use Rattle.rd_modeline.specs.declared.piece.Piece.{Piece}
use Rattle.rd_modeline.proofs.Steps.{AreRead}
use Rattle.rd_modeline.proofs.reading.check.Given as goal

abbrev pub invariant-loop-piece : goal.invariant-loop-piece
invariant-loop-piece l = (ps : List Piece) × AreRead l.text l.place ps

abbrev pub decreases-loop-piece : goal.decreases-loop-piece
decreases-loop-piece l = length l.text - l.place
