use Rattle.std.proofs.Common.{◌≡◌, ◌++◌, drop}
use Rattle.rd_glyphs.specs.Marks.{marks_joined, with_held}
use Rattle.rd_stack.specs.Strings.{part_joins}
use Rattle.rd_stack.proofs.marks.join_marks.Given as goal

abbrev pub invariant-loop-part : goal.invariant-loop-part
invariant-loop-part l = l.made ++ with_held part_joins l.held (drop l.part-index l.parts) ≡ marks_joined part_joins l.parts
