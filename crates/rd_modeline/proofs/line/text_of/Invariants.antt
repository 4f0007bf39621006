use Rattle.std.proofs.Common.{◌≡◌, ◌++◌, drop}
use Rattle.rd_modeline.specs.Lines.{line_text}
use Rattle.rd_modeline.proofs.line.text_of.Given as goal

abbrev pub invariant-loop-piece : goal.invariant-loop-piece
invariant-loop-piece l =
    l.text ++ line_text l.classes l.facts l.columns (drop l.piece-index l.pieces) ≡ line_text l.classes l.facts l.columns l.pieces
