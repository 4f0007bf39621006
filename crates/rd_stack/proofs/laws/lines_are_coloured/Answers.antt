use Rattle.rd_base.specs.Cells.{HasColours}
use Rattle.rd_items.proofs.Readings.{reading-each}
use Rattle.rd_stack.proofs.Coloured.{line-coloured, prefix-coloured}
use Rattle.rd_stack.proofs.laws.lines_are_coloured.Goals as goal

pub returns : goal.returns
returns c = record {
  line = λ scene base es sound read. line-coloured c.strings_have_colours.ensures scene base sound es read;
  prefix = λ scene base number sound. prefix-coloured c.strings_have_colours.ensures scene base sound number;
  reading = λ s objects p sound. reading-each (λ e. HasColours e.appearance.face) s objects (λ q. c.merged_faces_have_their_colours.ensures s objects q sound) p;
}
