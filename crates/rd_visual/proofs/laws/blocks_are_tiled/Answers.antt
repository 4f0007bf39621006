use Rattle.std.proofs.Common.{arith}
use Rattle.rd_items.specs.Pieces.{scene_in}
use Rattle.rd_items.specs.Readings.{reading}
use Rattle.rd_visual.proofs.laws.blocks_are_tiled.Goals as goal

pub returns : goal.returns
returns c = λ s text. record {
  listed = c.blocks_are_listed.ensures s text.ordered;
  tiled = λ objects files b is.
      let some = is.some in
      let last = is.last in
      let scene = scene_in s.settings objects files in
      let es = reading s objects b.start in
      let read = c.blocks_are_read_whole.ensures.reading s objects b.start (omega (arith, some, last)) in
      record {
        size = c.blocks_are_read_whole.ensures.length s objects b.start b.end is;
        items = c.items_cover_their_block.ensures scene es read;
      };
}
