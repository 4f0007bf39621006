use Rattle.std.proofs.Common.{◌≤◌, All}
use Rattle.rd_base.specs.declared.limits.TheConstants.{TAB_COLUMNS}
use Rattle.rd_objects.specs.Sound.{AreCodes, AreObjects}
use Rattle.rd_objects.specs.Things.{ObjectLists}
use Rattle.rd_ucd.specs.Data.{Data}
use Rattle.rd_props.specs.Buffers.{BufferValue}
use Rattle.rd_items.specs.Readings.{reading}
use Rattle.rd_items.specs.Pieces.{scene_in}
use Rattle.rd_matrix.proofs.EachRow.{rows-each}
use Rattle.rd_matrix.specs.declared.block.Block.{Block}
use Rattle.rd_rows.specs.Shapes.{ShapeValues, IsShape}
use Rattle.rd_rows.specs.Whole.{IsWhole}
use Rattle.rd_blocks.specs.Sources.{rows_in, text_source}
use Rattle.rd_blocks.proofs.WholeRows.{PrefixLaws, all-whole, rows-whole}
use Rattle.rd_blocks.proofs.laws.rows_of_buffers_are_whole.Goals as goal

pub returns : goal.returns
returns c =
    let prefixes : PrefixLaws = record { inside = c.prefixes_are_sound.ensures.inside; row = c.prefixes_are_sound.ensures.row } in
    let whole : (s : BufferValue) (objects : ObjectLists) (files : Data) (b : Block) (shape : ShapeValues)
    → AreObjects objects → 1 ≤ s.settings.tab_width → s.settings.tab_width ≤ TAB_COLUMNS → AreCodes s.text.text → IsShape shape
    → All (IsWhole shape.width) ((text_source s objects files).rows_of b shape)
    = λ s objects files b shape sound least most codes is.
    let scene = scene_in s.settings objects files in
    let es = reading s objects b.start in
    let parts = c.scenes_are_sound.ensures s.settings objects files sound least most in
    let coded = c.readings_have_codes.ensures s objects b.start codes in
    all-whole shape.width (rows_in s objects files b shape)
    (rows-whole prefixes c.rows_are_whole.ensures scene b.base sound parts shape es is
    (c.lines_are_sound.ensures.sound scene b.base es sound parts coded) (c.lines_are_sound.ensures.measured scene b.base es sound parts coded)) in
    record {
      block = whole;
      all = λ s objects files shape sound least most codes is.
          rows-each (IsWhole shape.width) (λ b. (text_source s objects files).rows_of b shape) (text_source s objects files).blocks (λ b. whole s objects files b shape sound least most codes is);
    }
