use Rattle.rd_items.specs.Items.{items_of}
use Rattle.rd_stack.proofs.LineEnds.{line-ends}
use Rattle.rd_stack.proofs.laws.lines_end_once.Goals as goal

pub returns : goal.returns
returns c = λ scene base es reading.
    line-ends scene base c.enders_come_last.ensures (items_of scene es) (c.items_cover_their_block.ensures scene es reading).end
