-- The windows that the nodes of a tree stand for.
use Rattle.rd_tree.specs.declared.node.Node.{Node, Leaf, Split'}
use Rattle.rd_tree.specs.Windows.{Windows, Window, Split}

abbrev pub shape : Node → Windows
shape (Leaf leaf) = Window leaf.number leaf.mode leaf.margins
shape (Split' side size _ first _ second) = Split side size (shape first) (shape second)
