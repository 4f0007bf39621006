use Rattle.std.proofs.Common.{length, arith}
use Rattle.rd_items.specs.Items.{items_of}
use Rattle.rd_items.specs.Pieces.{scene_in}
use Rattle.rd_items.specs.Readings.{reading}
use Rattle.rd_stack.specs.Lines.{line_elements}
use Rattle.rd_blocks.specs.Rows.{block_cutting}
use Rattle.rd_blocks.proofs.Enders.{line-ender}
use Rattle.rd_blocks.proofs.LastRows.{row-of-last}
use Rattle.rd_blocks.proofs.Listed.{among-block, ends-of}
use Rattle.rd_blocks.proofs.laws.blocks_fill_the_text.Goals as goal

pub returns-clause-begin : goal.returns-clause-begin
returns-clause-begin c = λ s objects files text. (ends-of files.classes s (c.blocks_are_listed.ensures s text.ordered) text.ordered).0

pub returns-clause-end : goal.returns-clause-end
returns-clause-end c = λ s objects files text. (ends-of files.classes s (c.blocks_are_listed.ensures s text.ordered) text.ordered).1

pub returns-clause-last : goal.returns-clause-last
returns-clause-last c = λ s objects files text b shape among is.
    let block = among-block files.classes s (c.blocks_are_listed.ensures s text.ordered) b among in
    let es = reading s objects b.start in
    let scene = scene_in s.settings objects files in
    let cover = c.items_cover_their_block.ensures scene es (c.blocks_are_read_whole.ensures.reading s objects b.start (omega (arith, block.some, block.last))) in
    row-of-last b.start b.end (length es) (block_cutting scene b.base shape es) (line_elements scene b.base es) (c.blocks_are_read_whole.ensures.length s objects b.start b.end block) block.some
    (line-ender scene b.base c.enders_come_last.ensures (length es) (items_of scene es) cover)
