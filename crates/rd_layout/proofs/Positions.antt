-- The items that begin in the rows of a last layout end at positions.
use Rattle.std.proofs.Common.{List, arith}
use Rattle.std.proofs.lemmas.List.Elements.{All-map}
use Rattle.rd_base.proofs.Lists.{all-at}
use Rattle.std.specs.List.{All}
use Rattle.std.specs.Prelude.{slice_index_or}
use Rattle.rd_blocks.proofs.Listed.{among-small}
use Rattle.rd_blocks.specs.Kept.{AreRowsAt}
use Rattle.rd_blocks.specs.Sources.{text_source}
use Rattle.rd_matrix.proofs.EachRow.{begins-each}
use Rattle.rd_matrix.specs.Entries.{shown_entries, shown_entry}
use Rattle.rd_matrix.specs.Sources.{IsSource, SourceValues, rows_at}
use Rattle.rd_matrix.specs.declared.matrix.Entry.{Entry}
use Rattle.rd_objects.specs.Things.{ObjectLists}
use Rattle.rd_props.specs.Buffers as props
use Rattle.rd_rows.specs.Shapes.{IsShape, ShapeValues}
use Rattle.rd_state.specs.States.{StateValue}
use Rattle.rd_state.specs.declared.window.WindowState.{WindowState}
use Rattle.rd_text.specs.Texts.{IsText}
use Rattle.rd_ucd.specs.Data.{Data}
use Rattle.rd_visual.specs.Hits.{AreInPositions, AreInRow, Fits}
use Rattle.rd_window.specs.declared.layout.Layout.{Layout}
use Rattle.rd_layout.specs.Laws.{ViewLaws}
use Rattle.rd_layout.specs.Since.{IsKnown}

module _ (views : ViewLaws) (s : props.BufferValue) (objects : ObjectLists) (files : Data) (shape : ShapeValues) (text : IsText s.text) (is : IsShape shape) where
  abbrev m : SourceValues
  m = text_source s objects files

  source : IsSource m
  source = views.source s objects files text

  rows-fit : All AreInRow (rows_at m shape)
  rows-fit = begins-each Fits (λ b. m.rows_of b shape) m.blocks (λ b at. λ k x below.
      let low = among-small files.classes s (views.listed s text.ordered) text b at in
      let lies = (source.rows b shape at is).inside k x below in
      let high = lies.1 in
      omega (arith, low, high))

  pub entries-fit : (es : List Entry) → AreRowsAt m shape es → AreInPositions (shown_entries es)
  entries-fit es at =
      All-map AreInRow shown_entry es
      (λ k d less.
      let place = at k d less in
      all-at AreInRow (rows_at m shape) place.0 (shown_entry (slice_index_or es k d)) rows-fit place.1)

pub known-fit : ViewLaws → (files : Data) (s : StateValue) (w : WindowState) (l : Layout) → IsKnown files s w l → AreInPositions (shown_entries l.matrix)
known-fit views files s w l known = entries-fit views known.old known.made files l.shape known.text known.shape l.matrix known.rows
