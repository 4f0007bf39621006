use Rattle.std.proofs.Common.{length}
use Rattle.rd_tree.specs.Windows.{leaves}
use Rattle.rd_tree.specs.Shapes.{shape}
use Rattle.rd_tree.proofs.node.Node.+find.Given as goal

abbrev pub decreases-find : goal.decreases-find
decreases-find l = length (leaves (shape l.self.now))
