use Rattle.std.proofs.Common.{length}
use Rattle.rd_tree.specs.Windows.{leaves}
use Rattle.rd_tree.specs.Shapes.{shape}
use Rattle.rd_tree.proofs.node.Node.+remove.Given as goal

abbrev pub decreases-remove : goal.decreases-remove
decreases-remove l = length (leaves (shape l.self.now))
