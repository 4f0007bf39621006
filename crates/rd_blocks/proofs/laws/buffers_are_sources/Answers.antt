use Rattle.rd_blocks.proofs.Sources.{source-right}
use Rattle.rd_blocks.proofs.laws.buffers_are_sources.Goals as goal

pub returns : goal.returns
returns c = source-right (record {
  items = c.items_that_give_have_elements.ensures.some;
  prefixes = c.prefixes_end_no_line.ensures;
  listed = c.blocks_are_listed.ensures;
  read = c.blocks_are_read_whole.ensures.reading;
  size = c.blocks_are_read_whole.ensures.length;
  cover = c.items_cover_their_block.ensures;
  ends = c.lines_end_once.ensures;
  last = c.rows_behind_quiet_prefixes.ensures.last;
  begun = c.rows_behind_quiet_prefixes.ensures.begun;
})
