use Rattle.std.proofs.Common.{length}
use Rattle.rd_tree.specs.Windows.{leaves}
use Rattle.rd_tree.specs.Shapes.{shape}
use Rattle.rd_tree.proofs.node.Node.+resize.Given as goal

abbrev pub decreases-resize : goal.decreases-resize
decreases-resize l = length (leaves (shape l.self.now))
