use Rattle.rd_tree.proofs.Steps.{split_keeps, remove_keeps, resize_keeps, mode_keeps, margins_keeps}
use Rattle.rd_tree.proofs.Validity.{opening_valid}
use Rattle.rd_tree.proofs.laws.calls_keep_trees.Goals as goal

pub returns : goal.returns
returns c = record { opening = opening_valid; split = split_keeps; remove = remove_keeps; resize = resize_keeps; mode = mode_keeps; margins = margins_keeps }
