use Rattle.std.proofs.Common.{◌≡◌, ℕ, ◌+◌, ◌≤◌, List, length, sym, ◌∙◌}
use Rattle.std.proofs.lemmas.List.Elements.{recursion_from_All}
use Rattle.rd_base.specs.declared.cell.Cell.{Cell}
use Rattle.rd_term.specs.Pictures.{IsGrid}
use Rattle.rd_tree.specs.Calls.{frame_of}
use Rattle.rd_tree.specs.Compositions.{composed, HasSize, FillTheirRectangles}
use Rattle.rd_tree.specs.Windows.{Windows, HasRoom, placed}
use Rattle.rd_tree.specs.declared.placed.Placed.{Placed}
use Rattle.rd_tree.specs.declared.rect.Rect.{Rect}
use Rattle.rd_frame.specs.Frames.{FrameValues, rows_of, frame_rows}
use Rattle.rd_frame.specs.Fits.{FitsFrame}
use Rattle.rd_frame.specs.Paints.{with_rectangle, painted, with_echo}
use Rattle.rd_frame.proofs.Filling.{frame-filled}
use Rattle.rd_frame.proofs.Painting.{at-rectangle, just-wide, narrower, painted-composed, painted-whole}
use Rattle.rd_frame.proofs.laws.windows_are_painted_in_order.Goals as goal

pub returns : goal.returns
returns c = record { composed = in-order; rows = rows } where
  in-order : (rows_of : Placed → List (List Cell)) (windows : Windows) (rect : Rect) (width : ℕ) (rows : List (List Cell)) → HasRoom windows rect → FillTheirRectangles rows_of (placed windows rect) → IsGrid width rows → rect.x + rect.width ≤ width
      → painted rows_of (placed windows rect) rows ≡ with_rectangle rect (composed rows_of windows rect) rows
  in-order rows_of windows rect width rows room fill grid inside =
      painted-composed rows_of windows rect rows room fill (narrower width (rect.x + rect.width) rows inside (just-wide width rows (recursion_from_All (λ row. length row ≡ width) rows grid)))
      ∙ sym (at-rectangle rect.y rect.x (composed rows_of windows rect) rows)

  rows : (f : FrameValues) (rows : List (List Cell)) → FitsFrame f → HasSize f.tree.width (f.tree.height + 1) rows → with_echo f.echo (painted (rows_of f) (placed f.tree.windows (frame_of f.tree)) rows) ≡ frame_rows f
  rows f old fits size =
      painted-whole (rows_of f) f.tree.windows f.tree.width f.tree.height f.echo old fits.room (frame-filled f fits) size
