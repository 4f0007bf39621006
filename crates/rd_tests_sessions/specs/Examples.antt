-- Sessions of which redisplays are worked out, by the ops that lead to them.
use Rattle.std.specs.Prelude.{Some, List, [], ◌∷◌, codes}
use Rattle.rd_layout.specs.Examples.{each_in_a_line}
use Rattle.rd_script.specs.declared.op.Op.{Op}
use Rattle.rd_script.specs.declared.op.Op.TheVariants.{Frame, Insert, ModeLine, Point, Split, Start}
use Rattle.rd_state.specs.States.{main_name}
use Rattle.rd_tree.specs.declared.side.Side.TheVariants.{Right}

-- three lines of a letter each, in a frame with room for them
abbrev pub three_lines : List Op
three_lines = Frame 12 4 ∷ Insert main_name 1 (each_in_a_line (codes "abc")) ∷ []

-- two windows side by side with mode lines, which both show eight lines from the third one on, with point in it
abbrev pub two_windows : List Op
two_windows =
    Frame 24 5 ∷ Insert main_name 1 (each_in_a_line (codes "12345678")) ∷ ModeLine 0 (Some (codes "%b %l %p")) ∷ Split 0 Right 12
    ∷ Start 0 5 0 ∷ Start 1 5 0 ∷ Point 0 5 ∷ Point 1 5 ∷ []
