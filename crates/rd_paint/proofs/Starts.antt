-- The positions of a view are accessible in the text that it shows.
use Rattle.std.proofs.Common.{◌≤◌, arith}
use Rattle.std.proofs.lemmas.List.Elements.{All-drop, All-from_recursion, All-take}
use Rattle.std.specs.List.{All}
use Rattle.rd_blocks.proofs.Listed.{among-block}
use Rattle.rd_blocks.specs.Bases.{blocks_in}
use Rattle.rd_blocks.specs.Sources.{text_source}
use Rattle.rd_frame.specs.Panes.{body_height}
use Rattle.rd_items.specs.Blocks.{ListedLaw}
use Rattle.rd_matrix.proofs.EachRow.{entries-each}
use Rattle.rd_matrix.specs.Entries.{EntryMeaning}
use Rattle.rd_matrix.specs.Sources.{rows_at}
use Rattle.rd_objects.specs.Things.{ObjectLists}
use Rattle.rd_props.specs.Buffers as props
use Rattle.rd_rows.specs.Shapes.{ShapeValues}
use Rattle.rd_state.specs.States.{StateValue, seen}
use Rattle.rd_state.specs.Windows.{shown_content}
use Rattle.rd_state.specs.declared.window.WindowState.{WindowState}
use Rattle.rd_text.specs.Texts.{IsAccessible, IsText, TextValue}
use Rattle.rd_tree.specs.declared.placed.Placed.{Placed}
use Rattle.rd_ucd.specs.Data.{Data}
use Rattle.rd_window.specs.Views.{start_row}
use Rattle.rd_layout.specs.Windows.{view_in, wanted_of, window_shape, window_source}
use Rattle.rd_paint.specs.Shown.{IsViewOf}

-- a row that starts at an accessible position
abbrev pub StartsIn : TextValue → EntryMeaning → Type 0
StartsIn text e = IsAccessible text e.start

-- all rows of a buffer start at accessible positions
pub rows-start : ListedLaw → (s : props.BufferValue) (objects : ObjectLists) (files : Data) (shape : ShapeValues) → s.text.begin ≤ s.text.end → All (StartsIn s.text) (rows_at (text_source s objects files) shape)
rows-start listed s objects files shape ordered =
    All-from_recursion (StartsIn s.text) (rows_at (text_source s objects files) shape)
    (entries-each (StartsIn s.text) (λ b. (text_source s objects files).rows_of b shape) (blocks_in files.classes s)
    (λ b k r among found. let block = among-block files.classes s (listed s ordered) b among in (block.first, omega (arith, block.some, block.last))))

-- the positions of a window's view
pub is-view : ListedLaw → (files : Data) (s : StateValue) (w : WindowState) (p : Placed) → IsText (shown_content s w).text → IsAccessible (shown_content s w).text (view_in files s w p).anchor.pos
    → IsAccessible (shown_content s w).text (view_in files s w p).point → IsViewOf (shown_content s w).text (view_in files s w p)
is-view listed files s w p text anchor point = record {
  anchor = anchor;
  point = point;
  rows = All-take (StartsIn (shown_content s w).text) (body_height p) _ (All-drop (StartsIn (shown_content s w).text) (start_row (window_source files s w) (window_shape s w p) (wanted_of s w p)) _
      (rows-start listed (seen (shown_content s w)) s.objects files (window_shape s w p) text.ordered));
}
