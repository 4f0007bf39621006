-- The window that is painted next.
use Rattle.std.proofs.Common.{◌≡◌, ℕ, ◌+◌, ◌≤◌, Some, List, length, sym, ap, subst, ◌∙◌, unwrap_or, arith}
use Rattle.std.proofs.lemmas.List.{drop_all}
use Rattle.std.specs.Prelude.{slice_get}
use Rattle.rd_base.specs.declared.cell.Cell.{Cell}
use Rattle.rd_ucd.specs.Data.{Data}
use Rattle.rd_ucd.specs.declared.spans.Span.{Span}
use Rattle.rd_frame.specs.Fits.{FitsWindow}
use Rattle.rd_frame.specs.Frames.{FrameValues, rows_of}
use Rattle.rd_frame.specs.Paints.{painted, with_rectangle}
use Rattle.rd_frame.specs.Panes.{PaneValues, window_rows}
use Rattle.rd_frame.specs.OneByOne.{IsPaintedNext, painted_from, with_window}
use Rattle.rd_objects.specs.Things.{ObjectLists}
use Rattle.rd_state.specs.States.{BufferValue, StateValue}
use Rattle.rd_state.specs.Valid.{IsValid}
use Rattle.rd_state.specs.Windows.{content_in, shown_content}
use Rattle.rd_state.specs.declared.window.WindowState.{WindowState}
use Rattle.rd_term.specs.Pictures.{width_of}
use Rattle.rd_term.proofs.Shapes.{grid-width}
use Rattle.rd_text.specs.Texts.{IsText, TextValue}
use Rattle.rd_tree.specs.Calls.{frame_of}
use Rattle.rd_tree.specs.Compositions.{HasSize}
use Rattle.rd_tree.specs.Windows.{placed}
use Rattle.rd_tree.specs.declared.placed.Placed.{Placed}
use Rattle.rd_window.specs.Views.{WindowView}
use Rattle.rd_layout.specs.Screens.{frame_in, pane_at}
use Rattle.rd_layout.specs.Windows.{view_in}
use Rattle.rd_paint.specs.Laws.{PaintLaws}
use Rattle.rd_paint.specs.Shown.{AreShown, IsLeaf, IsViewOf, of_classes, pane_in}
use Rattle.rd_paint.proofs.Leaves.{view-at}
use Rattle.rd_paint.proofs.Panes.{pane-here}
use Rattle.rd_paint.proofs.Starts.{is-view}

pub width-is : (width height : ℕ) (rows : List (List Cell)) → HasSize width (height + 1) rows → width_of rows ≡ width
width-is width height rows h = grid-width width rows (let tall = h.0 in omega arith) h.1

-- where no window is left to be painted, all are painted
pub all-painted : (f : FrameValues) (i : ℕ) (first rows : List (List Cell)) → length (placed f.tree.windows (frame_of f.tree)) ≤ i → painted_from f 0 first ≡ painted_from f i rows
    → painted (rows_of f) (placed f.tree.windows (frame_of f.tree)) first ≡ rows
all-painted f i first rows end h = h ∙ ap (λ (ps : List Placed). painted (rows_of f) ps rows) (drop_all i (placed f.tree.windows (frame_of f.tree)) end)

-- the window at a place of the leaf order is painted next
pub next-here : PaintLaws → (s : StateValue) → IsValid s → (i : ℕ) (place : Placed) (w : WindowState) (content : BufferValue) → IsLeaf s i place w content → (rows : List (List Cell)) → HasSize s.tree.width (s.tree.height + 1) rows
    → (files : Data) → IsPaintedNext (frame_in files s) i place rows
next-here laws s valid i place w content leaf rows size files = laws.next (frame_in files s) i place.number place rows (laws.fits files s valid) size leaf.placed leaf.listed

module _ (laws : PaintLaws) (s : StateValue) (valid : IsValid s) (classes : List Span) (views : List WindowView) (i : ℕ) (place : Placed) (w : WindowState) (content : BufferValue) (leaf : IsLeaf s i place w content) (v : WindowView)
    (at : slice_get views i ≡ Some v) (rows : List (List Cell)) (size : HasSize s.tree.width (s.tree.height + 1) rows) where
  -- the view of the window
  view-is : (files : Data) → AreShown files classes s views → v ≡ view_in files s w place
  view-is files shown =
      ap (λ o. unwrap_or o v) (sym at ∙ (ap (λ (vs : List WindowView). slice_get vs i) shown.shown ∙ view-at s valid files i place w leaf.listed leaf.window))

  -- what the window shows
  abbrev pub pane : PaneValues
  pane = pane_in (of_classes classes) s.objects content w place.rect.width v

  pane-is : (files : Data) → AreShown files classes s views → pane_at files s place ≡ pane
  pane-is files shown =
      pane-here files classes s i place w content shown.known leaf ∙ ap (pane_in (of_classes classes) s.objects content w place.rect.width) (sym (view-is files shown))

  pub fits-here : (files : Data) → AreShown files classes s views → FitsWindow (width_of rows) pane place
  fits-here files shown = subst (λ (p : PaneValues). FitsWindow (width_of rows) p place) (pane-is files shown) (next-here laws s valid i place w content leaf rows size files).fits

  pub view-here : (files : Data) → AreShown files classes s views → IsViewOf content.content.text v
  view-here files shown =
      let b = leaf.buffer in
      let c = ap content_in b.1 in
      let text : IsText (shown_content s w).text = subst (λ x. IsText x.text) (sym c) (valid.buffers.contents w.buffer b.0 b.1).text in
      let both = laws.chosen files s place.number w place valid leaf.window leaf.placed in
      let there = is-view laws.listed files s w place text both.0 both.1 in
      let same : (shown_content s w).text ≡ content.content.text = ap (λ x. x.text) c ∙ ap (λ (x : BufferValue). x.content.text) (sym b.2) in
      subst (λ (x : TextValue). IsViewOf x v) same (subst (IsViewOf (shown_content s w).text) (sym (view-is files shown)) there)

  pub painted-here : (files : Data) → AreShown files classes s views → with_rectangle place.rect (window_rows (width_of rows) pane place) rows ≡ with_window (frame_in files s) place rows
  painted-here files shown =
      ap (λ (p : PaneValues). with_rectangle place.rect (window_rows (width_of rows) p place) rows) (sym (pane-is files shown))
      ∙ ap (λ (n : ℕ). with_rectangle place.rect (window_rows n (pane_at files s place) place) rows) (width-is s.tree.width s.tree.height rows size)

  -- the rows of the screen when the window is painted
  pub rows-here : (files : Data) → AreShown files classes s views → (objects : ObjectLists) → objects ≡ s.objects → (new : List (List Cell))
      → new ≡ with_rectangle place.rect (window_rows (width_of rows) (pane_in (of_classes classes) objects content w place.rect.width v) place) rows → new ≡ with_window (frame_in files s) place rows
  rows-here files shown objects same new is =
      is
      ∙ (ap (λ (o : ObjectLists). with_rectangle place.rect (window_rows (width_of rows) (pane_in (of_classes classes) o content w place.rect.width v) place) rows) same
      ∙ painted-here files shown)
