use Rattle.std.proofs.Common.{rules}
use Rattle.rd_stack.proofs.line.LineFrame.step.Goals as goal

-- the search by itself does not replace the origin within what is put for strings
pub returns : goal.returns
returns c =
    let step = rw c.origin_of-origin.ensures at c.kind_step.ensures in
    search rules
