-- The window that is painted next.
use Rattle.std.proofs.Common.{◌≡◌, ℕ, ◌+◌, ◌-◌, ◌≤◌, Some, List, ◌∷◌, length, drop, sym, subst, ◌∙◌, ap, arith}
use Rattle.std.specs.Prelude.{slice_get}
use Rattle.std.proofs.lemmas.List.{drop_more}
use Rattle.std.proofs.lemmas.Option.{get_or_from_slice_get, slice_get_within}
use Rattle.std.proofs.lemmas.List.Elements.{recursion_from_All, All-from_recursion}
use Rattle.rd_base.specs.declared.cell.Cell.{Cell}
use Rattle.rd_term.specs.Pictures.{width_of}
use Rattle.rd_tree.proofs.Standing.{stands_in}
use Rattle.rd_tree.specs.Calls.{frame, frame_of}
use Rattle.rd_tree.specs.Compositions.{HasSize}
use Rattle.rd_tree.specs.Places.{StandsIn}
use Rattle.rd_tree.specs.Windows.{placed, window_at}
use Rattle.rd_tree.specs.declared.placed.Placed.{Placed}
use Rattle.rd_frame.specs.Fits.{FitsWindow, FitsFrame, StandsOn}
use Rattle.rd_frame.specs.Frames.{FrameValues, rows_of}
use Rattle.rd_frame.specs.Paints.{painted}
use Rattle.rd_frame.specs.OneByOne.{IsPaintedNext}
use Rattle.rd_term.proofs.Shapes.{grid-width}
use Rattle.rd_frame.proofs.Filling.{window-size}
use Rattle.rd_frame.proofs.Painting.{laid_at, at-each, at-rectangle, at-length, written-length}

stands-on : (width height : ℕ) (window : Placed) (rows : List (List Cell)) → StandsIn window (frame width height) → width_of rows ≡ width → length rows ≡ height + 1 → StandsOn window rows
stands-on width height window rows stands wide tall =
    let left : length rows - 1 ≡ height = omega arith in
    rw (wide, left) stands

-- rows of a rectangle on rows of a screen leave the screen's size
size-kept : (width height columns count : ℕ) (y column : ℕ) (news rows : List (List Cell)) → HasSize width height rows → HasSize columns count news → column + columns ≤ width → HasSize width height (laid_at y column news rows)
size-kept width height columns count y column news rows size new room = (
  at-length y column news rows ∙ size.0,
  All-from_recursion (λ row. length row ≡ width) (laid_at y column news rows)
      (at-each (λ row. length row ≡ width) (λ new. length new ≡ columns) column (λ new row n m. written-length column new row (omega (arith, n, m, room)) ∙ m) y news rows
      (recursion_from_All (λ row. length row ≡ columns) news new.1) (recursion_from_All (λ row. length row ≡ width) rows size.1)),
)

pub painted-next : (f : FrameValues) (i number : ℕ) (window : Placed) (rows : List (List Cell)) → FitsFrame f → HasSize f.tree.width (f.tree.height + 1) rows → window_at number f.tree.windows (frame_of f.tree) ≡ Some window → slice_get (placed f.tree.windows (frame_of f.tree)) i ≡ Some window → IsPaintedNext f i window rows
painted-next f i number window rows frame size found here =
    let stands = stands_in number f.tree.windows (frame_of f.tree) window frame.room found in
    let windows = placed f.tree.windows (frame_of f.tree) in
    let inside = slice_get_within windows i window here in
    let there = get_or_from_slice_get windows i window window here in
    let wide : width_of rows ≡ f.tree.width = grid-width f.tree.width rows (let n = size.0 in omega arith) size.1 in
    let fits : FitsWindow f.tree.width (f.panes window) window = subst (λ (w : Placed). FitsWindow f.tree.width (f.panes w) w) there (frame.windows i window inside) in
    let rect = window.rect in
    let within = stands.0 in
    let laid : HasSize f.tree.width (f.tree.height + 1) (laid_at rect.y rect.x (rows_of f window) rows)
    = size-kept f.tree.width (f.tree.height + 1) rect.width rect.height rect.y rect.x (rows_of f window) rows size (window-size f.tree.width (f.panes window) window stands.1 stands.2 fits) (let right = within.1 in omega arith) in
    record {
      stands = stands-on f.tree.width f.tree.height window rows stands wide size.0;
      fits = subst (λ (n : ℕ). FitsWindow n (f.panes window) window) (sym wide) fits;
      size = subst (HasSize f.tree.width (f.tree.height + 1)) (sym (at-rectangle rect.y rect.x (rows_of f window) rows)) laid;
      rest = ap (λ (ws : List Placed). painted (rows_of f) ws rows) (drop_more windows i window inside ∙ ap (λ (w : Placed). w ∷ drop (i + 1) windows) there);
    }
