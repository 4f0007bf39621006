use Rattle.std.proofs.Common.{All}
use Rattle.rd_base.specs.Cells.{IsColoured}
use Rattle.rd_objects.specs.Sound.{AreObjects}
use Rattle.rd_objects.specs.Things.{ObjectLists}
use Rattle.rd_ucd.specs.Data.{Data}
use Rattle.rd_props.specs.Buffers.{BufferValue}
use Rattle.rd_items.specs.Readings.{reading}
use Rattle.rd_items.specs.Pieces.{scene_in}
use Rattle.rd_matrix.proofs.EachRow.{rows-each}
use Rattle.rd_matrix.specs.declared.block.Block.{Block}
use Rattle.rd_rows.specs.Rows.{RowMeaning}
use Rattle.rd_rows.specs.Shapes.{ShapeValues}
use Rattle.rd_stack.specs.Lines.{line_elements}
use Rattle.rd_blocks.specs.Rows.{line_prefix_of, wrap_prefix_of, line_prefix, wrap_prefix, truncation_mark, continuation_mark}
use Rattle.rd_blocks.specs.Sources.{rows_in, text_source}
use Rattle.rd_blocks.proofs.WholeRows.{all-coloured, prefix-coloured}
use Rattle.rd_blocks.proofs.laws.rows_of_buffers_are_coloured.Goals as goal

pub returns : goal.returns
returns c =
    let coloured : (s : BufferValue) (objects : ObjectLists) (files : Data) (b : Block) (shape : ShapeValues)
    → AreObjects objects → All (λ (r : RowMeaning). All IsColoured r.cells) ((text_source s objects files).rows_of b shape)
    = λ s objects files b shape sound.
    let scene = scene_in s.settings objects files in
    let es = reading s objects b.start in
    all-coloured (rows_in s objects files b shape)
    (c.rows_are_coloured.ensures shape b.base (line_prefix scene b.base es) (wrap_prefix scene b.base es) (truncation_mark scene) (continuation_mark scene b.base) (line_elements scene b.base es)
    (prefix-coloured c.lines_are_coloured.ensures.prefix scene b.base (line_prefix_of scene.parts.settings.line_prefix es) sound)
    (prefix-coloured c.lines_are_coloured.ensures.prefix scene b.base (wrap_prefix_of scene.parts.settings.wrap_prefix es) sound)
    (c.lines_are_coloured.ensures.line scene b.base es sound (c.lines_are_coloured.ensures.reading s objects b.start sound))) in
    record {
      block = coloured;
      all = λ s objects files shape sound.
          rows-each (λ (r : RowMeaning). All IsColoured r.cells) (λ b. (text_source s objects files).rows_of b shape) (text_source s objects files).blocks (λ b. coloured s objects files b shape sound);
    }
