use Rattle.rd_tree.proofs.Composing.{composed-size, composed-cell, composed-held, composed-whole, composed-coloured, composed-same}
use Rattle.rd_tree.proofs.laws.frames_are_composed.Goals as goal

pub returns : goal.returns
returns c = record { size = composed-size; cell = composed-cell; held = composed-held; whole = composed-whole; coloured = composed-coloured; same = composed-same }
