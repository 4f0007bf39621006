-- What a window shows in its rectangle, by the classes and the buffer alone.
use Rattle.std.proofs.Common.{◌≡◌, ℕ, Option, None, Some, Result, Ok, Err, List, [], sym, ap, refl, ◌∙◌, unwrap_or}
use Rattle.std.specs.Prelude.{slice_get}
use Rattle.rd_base.specs.declared.cell.Cell.{Cell}
use Rattle.rd_ucd.specs.Data.{Data}
use Rattle.rd_ucd.specs.declared.spans.Span.{Span}
use Rattle.rd_frame.specs.Panes.{PaneValues}
use Rattle.rd_modeline.specs.Formats.{pieces_of}
use Rattle.rd_modeline.specs.Values.{FactValues}
use Rattle.rd_modeline.specs.declared.piece.Piece.{Piece}
use Rattle.rd_objects.specs.Things.{ObjectLists}
use Rattle.rd_state.specs.States.{BufferValue, StateValue, new_buffer}
use Rattle.rd_state.specs.Windows.{content_in}
use Rattle.rd_state.specs.declared.window.WindowState.{WindowState}
use Rattle.rd_tree.specs.declared.placed.Placed.{Placed}
use Rattle.rd_window.specs.Views.{WindowView}
use Rattle.rd_layout.specs.Panes.{cells_of_pieces, line_facts, mode_line, pane_of, pane_with}
use Rattle.rd_layout.specs.Screens.{pane_at, pane_by}
use Rattle.rd_layout.specs.Windows.{view_in}
use Rattle.rd_paint.specs.Shown.{IsLeaf, of_classes, painted_of, pane_in}

pieces-by : (files : Data) (facts : FactValues) (width : ℕ) (r : Result (List Piece) ℕ) → cells_of_pieces files facts width r ≡ cells_of_pieces (of_classes files.classes) facts width r
pieces-by files facts width (Ok ps) = refl
pieces-by files facts width (Err place) = refl

mode-by : (files : Data) (facts : FactValues) (width : ℕ) (format : Option (List ℕ)) → mode_line files facts width format ≡ mode_line (of_classes files.classes) facts width format
mode-by files facts width None = refl
mode-by files facts width (Some format) = pieces-by files facts width (pieces_of format)

pane-by : (files : Data) (objects : ObjectLists) (b : BufferValue) (w : WindowState) (width : ℕ) (v : WindowView) → pane_in files objects b w width v ≡ pane_in (of_classes files.classes) objects (painted_of b) w width v
pane-by files objects b w width v =
    ap (λ (cells : List Cell). let p : PaneValues = record (pane_in files objects b w width v) { mode_line = cells } in p) (mode-by files (line_facts b v) width w.format)

pane-of-buffer : (files : Data) (s : StateValue) (w : WindowState) (place : Placed) (v : WindowView) (b : BufferValue) → slice_get s.buffers w.buffer ≡ Some b
    → pane_of files s w place v ≡ pane_in files s.objects b w place.rect.width v
pane-of-buffer files s w place v b at =
    ap (λ (o : Option BufferValue). pane_with files s.objects (content_in o) (line_facts (unwrap_or o (new_buffer [])) v) w place.rect.width v) at

-- what a window of the frame shows
pub pane-here : (files : Data) (classes : List Span) (s : StateValue) (i : ℕ) (place : Placed) (w : WindowState) (content : BufferValue) → files.classes ≡ classes → IsLeaf s i place w content
    → pane_at files s place ≡ pane_in (of_classes classes) s.objects content w place.rect.width (view_in files s w place)
pane-here files classes s i place w content is leaf =
    let b = leaf.buffer in
    let v = view_in files s w place in
    ap (pane_by files s place) leaf.window
    ∙ (pane-of-buffer files s w place v b.0 b.1
    ∙ (pane-by files s.objects b.0 w place.rect.width v
    ∙ (ap (λ (c : List Span). pane_in (of_classes c) s.objects (painted_of b.0) w place.rect.width v) is
    ∙ ap (λ (x : BufferValue). pane_in (of_classes classes) s.objects x w place.rect.width v) (sym b.2))))
