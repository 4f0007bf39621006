-- What contracts see in place of the fields of a tree.
use Rattle.rd_tree.specs.declared.tree.Tree.TheInside.{Inside}
use Rattle.rd_tree.specs.Calls.{Configuration}
use Rattle.rd_tree.specs.Shapes.{shape}

abbrev pub configuration_of : Inside → Configuration
configuration_of t = record { windows = shape t.root; width = t.width; height = t.height; made = t.made }
