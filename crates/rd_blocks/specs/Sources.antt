-- A buffer as a source of blocks and of their rows.
use Rattle.std.specs.Prelude.{List}
use Rattle.rd_ucd.specs.Data.{Data}
use Rattle.rd_objects.specs.Things.{ObjectLists}
use Rattle.rd_props.specs.Buffers.{BufferValue, files_of, meaning}
use Rattle.rd_props.specs.declared.state.View.{View}
use Rattle.rd_items.specs.Readings.{reading}
use Rattle.rd_items.specs.Pieces.{scene_in}
use Rattle.rd_matrix.specs.declared.block.Block.{Block}
use Rattle.rd_matrix.specs.Sources.{SourceValues, source_by_itself}
use Rattle.rd_rows.specs.Laws.{seen_rows}
use Rattle.rd_rows.specs.Rows.{LaidRow, weight_of}
use Rattle.rd_rows.specs.Shapes.{ShapeValues}
use Rattle.rd_blocks.specs.Bases.{blocks_in}
use Rattle.rd_blocks.specs.Rows.{block_rows}

-- the rows of a block of a buffer, with these objects and data files
abbrev pub rows_in : BufferValue → ObjectLists → Data → Block → ShapeValues → List LaidRow
rows_in s objects files b shape = block_rows (scene_in s.settings objects files) b.base shape (reading s objects b.start)

-- the source that a buffer is: the rows of a block cost what is placed in them
abbrev pub text_source : BufferValue → ObjectLists → Data → SourceValues
text_source s objects files =
    source_by_itself (blocks_in files.classes s) (λ b shape. seen_rows (rows_in s objects files b shape)) (λ b shape. weight_of (rows_in s objects files b shape))

abbrev pub source_of : View → SourceValues
source_of view = text_source (meaning view.state.now) view.objects.now (files_of view)
