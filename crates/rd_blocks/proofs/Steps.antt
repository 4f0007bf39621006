-- Worked examples in two steps: how a line is cut with the line, and then its rows.
use Rattle.std.proofs.Common.{◌≡◌, List, ap₂}
use Rattle.rd_base.specs.declared.element.Element.{Element}
use Rattle.rd_objects.specs.Things.{ObjectLists}
use Rattle.rd_props.specs.Buffers.{BufferValue}
use Rattle.rd_items.specs.Readings.{reading}
use Rattle.rd_items.specs.Pieces.{scene_in}
use Rattle.rd_matrix.specs.declared.block.Block.{Block}
use Rattle.rd_rows.specs.declared.cutting.Cutting.{Cutting}
use Rattle.rd_rows.specs.Examples.{cells}
use Rattle.rd_rows.specs.Rows.{rows_of}
use Rattle.rd_rows.specs.Shapes.{ShapeValues}
use Rattle.rd_stack.specs.Lines.{line_elements}
use Rattle.rd_blocks.specs.Rows.{block_cutting}
use Rattle.rd_blocks.specs.Examples.{files, cells_of}

pub by-parts : (shape : ShapeValues) (s : BufferValue) (objects : ObjectLists) (b : Block) (d : Cutting) (fs : List Element)
    → block_cutting (scene_in s.settings objects files) b.base shape (reading s objects b.start) ≡ d → line_elements (scene_in s.settings objects files) b.base (reading s objects b.start) ≡ fs
    → cells_of shape s objects b ≡ cells (rows_of d fs)
by-parts shape s objects b d fs h k = ap₂ (λ (x : Cutting) (ys : List Element). cells (rows_of x ys)) h k
