-- What a window and a frame show fills them.
use Rattle.std.proofs.Common.{◌≡◌, ℕ, ◌+◌, ◌-◌, ◌<◌, ◌≤◌, Bool, true, false, Option, None, Some, List, [], ◌∷◌, ◌++◌, length, get_or, refl, ◌∙◌, ap, arith, length-append}
use Rattle.std.specs.Prelude.{map, replicate, if◌then◌else◌, IfSome, is_some, unwrap_or}
use Rattle.std.specs.List.{All, AllByRecursion}
use Rattle.std.proofs.lemmas.List.{length-map, length-replicate}
use Rattle.std.proofs.lemmas.List.Elements.{recursion_from_All, All-from_recursion, All-nil, All-cons, All-append, All-map, All-replicate, All-weaker}
use Rattle.rd_base.proofs.Choices.{either, one-at-most}
use Rattle.rd_base.specs.declared.cell.Cell.{Cell}
use Rattle.rd_term.specs.Pictures.{blank, blank_row, width_of, IsOfSize}
use Rattle.rd_term.proofs.Shapes.{grid-width}
use Rattle.rd_tree.proofs.Standing.{all_room}
use Rattle.rd_tree.specs.Calls.{frame_of}
use Rattle.rd_tree.specs.Compositions.{composed, HasSize, FillTheirRectangles}
use Rattle.rd_tree.specs.Places.{AllHaveRoom, StandsIn}
use Rattle.rd_tree.specs.Windows.{placed, columns_for, rows_for}
use Rattle.rd_tree.specs.declared.placed.Placed.{Placed}
use Rattle.rd_frame.specs.Panes.{GlyphRow, PaneValues, has_border, body_width, body_height, row_cells, body_rows, bordered, mode_line_row, window_rows}
use Rattle.rd_frame.specs.Frames.{FrameValues, rows_of, frame_rows, selected_window, on_frame, frame_cursor, frame_picture}
use Rattle.rd_frame.specs.Fits.{FitsWindow, IsInBody, FitsFrame, EachPart, EachPartOf}

-- ---- a window

shared : (columns margins border : ℕ) → 11 + margins ≤ columns → border ≤ 1 → margins + (columns - margins - border) + border ≡ columns
shared columns margins border room few = omega arith

-- the margins, the text and the border share the columns of a window
pub columns-shared : (width : ℕ) (window : Placed) → columns_for window.margins ≤ window.rect.width
    → window.margins + body_width width window + (if has_border width window then 1 else 0) ≡ window.rect.width
columns-shared width window room =
    let border : ℕ = if has_border width window then 1 else 0 in
    let few : border ≤ 1 = one-at-most (has_border width window) in
    shared window.rect.width window.margins border room few

-- the text and the mode line share its rows
rows-by : (mode : Bool) (rows : ℕ) → (if mode then 2 else 1) ≤ rows → (rows - (if mode then 1 else 0)) + (if mode then 1 else 0) ≡ rows
rows-by true rows room = omega arith
rows-by false rows room = omega arith

pub rows-shared : (window : Placed) → rows_for window.mode ≤ window.rect.height → body_height window + (if window.mode then 1 else 0) ≡ window.rect.height
rows-shared window room = rows-by window.mode window.rect.height room

some-by : (mode : Bool) (rows : ℕ) → (if mode then 2 else 1) ≤ rows → 0 < rows - (if mode then 1 else 0)
some-by true rows room = omega arith
some-by false rows room = omega arith

bordered-by : (test : Bool) (border : Cell) (row : List Cell) → length (if test then row ++ border ∷ [] else row) ≡ length row + (if test then 1 else 0)
bordered-by true border row = length-append row (border ∷ [])
bordered-by false border row = omega arith

pub bordered-length : (width : ℕ) (window : Placed) (border : Cell) (row : List Cell) → length (bordered width window border row) ≡ length row + (if has_border width window then 1 else 0)
bordered-length width window border row = bordered-by (has_border width window) border row

line-length : (mode : Bool) (cells : List Cell) → length (if mode then cells ∷ [] else []) ≡ (if mode then 1 else 0)
line-length true cells = refl
line-length false cells = refl

line-each : (P : List Cell → Type 0) (mode : Bool) (cells : List Cell) → (mode ≡ true → P cells) → All P (if mode then cells ∷ [] else [])
line-each P true cells h = All-cons P cells [] (h refl) (All-nil P)
line-each P false cells h = All-nil P

pub body-length : (columns height : ℕ) (rows : List GlyphRow) → length rows ≤ height → length (body_rows columns height rows) ≡ height
body-length columns height rows few =
    length-append (map row_cells rows) (replicate (height - length rows) (blank_row columns))
    ∙ omega (arith, length-map rows row_cells, length-replicate (height - length rows) (blank_row columns))

-- what holds of the cells of each glyph row and of a blank row, and with the border beside them as another, holds of the window's rows
rows-each : (P Q : List Cell → Type 0) (width : ℕ) (pane : PaneValues) (window : Placed) → All (λ row. P (row_cells row)) pane.rows → P (blank_row (window.margins + body_width width window))
    → ((row : List Cell) → P row → Q (bordered width window pane.border row)) → (window.mode ≡ true → Q pane.mode_line) → All Q (window_rows width pane window)
rows-each P Q width pane window rows blank beside line =
    let columns : ℕ = window.margins + body_width width window in
    let body = body_rows columns (body_height window) pane.rows in
    let inside : All P body = All-append P (map row_cells pane.rows) (replicate (body_height window - length pane.rows) (blank_row columns))
    (All-map P row_cells pane.rows rows) (All-replicate P (body_height window - length pane.rows) (blank_row columns) blank) in
    All-append Q (map (bordered width window pane.border) body) (mode_line_row window pane.mode_line)
    (All-map Q (bordered width window pane.border) body (λ k d in'. beside (get_or body k d) (inside k d in'))) (line-each Q window.mode pane.mode_line line)

-- the rows of a window fill its rectangle
pub window-size : (width : ℕ) (pane : PaneValues) (window : Placed) → columns_for window.margins ≤ window.rect.width → rows_for window.mode ≤ window.rect.height → FitsWindow width pane window
    → HasSize window.rect.width window.rect.height (window_rows width pane window)
window-size width pane window across down fits =
    let columns : ℕ = window.margins + body_width width window in
    let body = body_rows columns (body_height window) pane.rows in
    let beside = bordered width window pane.border in
    let whole = columns-shared width window across in (
      length-append (map beside body) (mode_line_row window pane.mode_line)
          ∙ omega (
            arith,
            length-map body beside,
            body-length columns (body_height window) pane.rows fits.few,
            line-length window.mode pane.mode_line,
            rows-shared window down,
          ),
      rows-each (λ row. length row ≡ columns) (λ row. length row ≡ window.rect.width) width pane window
          (λ k d in'. let r = get_or pane.rows k d in length-append r.margin r.text ∙ (let a = (fits.rows k d in').margin in let b = (fits.rows k d in').text in omega arith))
          (length-replicate columns blank) (λ row n. bordered-length width window pane.border row ∙ omega (arith, n, whole)) fits.mode_line,
    )

-- what holds of each part of a window and of rows that are joined holds of the window's rows
pub window-each : (P : List Cell → Type 0) → ((left right : List Cell) → P left → P right → P (left ++ right)) → ((columns : ℕ) → P (blank_row columns))
    → (width : ℕ) (pane : PaneValues) (window : Placed) → EachPart P pane window → All P (window_rows width pane window)
window-each P both blanks width pane window each =
    rows-each P P width pane window (λ k d in'. both (get_or pane.rows k d).margin (get_or pane.rows k d).text (each.margins k d in') (each.texts k d in'))
    (blanks (window.margins + body_width width window))
    (λ row h. either P (has_border width window) (row ++ pane.border ∷ []) row (both row (pane.border ∷ []) h each.border) h) each.mode_line

-- ---- a frame

fill-each : (f : FrameValues) (windows : List Placed) → AllHaveRoom windows → AllByRecursion (λ window. FitsWindow f.tree.width (f.panes window) window) windows
    → AllByRecursion (λ window. HasSize window.rect.width window.rect.height (rows_of f window)) windows
fill-each f [] room fits = tt
fill-each f (window ∷ windows) room fits = (window-size f.tree.width (f.panes window) window room.0.0 room.0.1 fits.0, fill-each f windows room.1 fits.1)

-- the rows of each window fill its rectangle
pub frame-filled : (f : FrameValues) → FitsFrame f → FillTheirRectangles (rows_of f) (placed f.tree.windows (frame_of f.tree))
frame-filled f fits =
    let windows = placed f.tree.windows (frame_of f.tree) in
    All-from_recursion (λ window. HasSize window.rect.width window.rect.height (rows_of f window)) windows
    (fill-each f windows (all_room f.tree.windows (frame_of f.tree) fits.room) (recursion_from_All (λ window. FitsWindow f.tree.width (f.panes window) window) windows fits.windows))

first-in-body : (width : ℕ) (window : Placed) → columns_for window.margins ≤ window.rect.width → rows_for window.mode ≤ window.rect.height → IsInBody width window (0, 0)
first-in-body width window across down = record {
  row = some-by window.mode window.rect.height down;
  column = let shares = columns-shared width window across in let few = one-at-most (has_border width window) in omega arith;
}

pub cursor-in-body : (width : ℕ) (window : Placed) (cursor : Option (ℕ × ℕ)) → columns_for window.margins ≤ window.rect.width → rows_for window.mode ≤ window.rect.height
    → IfSome cursor (IsInBody width window) → IsInBody width window (unwrap_or cursor (0, 0))
cursor-in-body width window None across down h = first-in-body width window across down
cursor-in-body width window (Some place) across down h = h

-- a place in a window's text lies in the window's rectangle, and on the frame
pub place-inside : (width : ℕ) (window : Placed) (place : ℕ × ℕ) → columns_for window.margins ≤ window.rect.width → rows_for window.mode ≤ window.rect.height → IsInBody width window place
    → ((on_frame window place).0 < window.rect.y + window.rect.height) × ((on_frame window place).1 < window.rect.x + window.rect.width)
place-inside width window place across down inside =
    let columns = columns-shared width window across in
    let rows = rows-shared window down in
    let a = inside.row in
    let b = inside.column in
    (omega arith, omega arith)

cursor-on-frame : (f : FrameValues) (selected : Option Placed) → IfSome selected (λ window. StandsIn window (frame_of f.tree)) → is_some selected ≡ true → IfSome selected (λ window. IfSome f.cursor (IsInBody f.tree.width window))
    → ((frame_cursor selected f.cursor).0 < f.tree.height) × ((frame_cursor selected f.cursor).1 < f.tree.width)
cursor-on-frame f None stands some h = absurd (cc)
cursor-on-frame f (Some window) stands some h =
    let place = place-inside f.tree.width window (unwrap_or f.cursor (0, 0)) stands.1 stands.2 (cursor-in-body f.tree.width window f.cursor stands.1 stands.2 h) in
    let w = stands.0 in
    (let a = place.0 in omega arith, let b = place.1 in omega arith)

-- the target screen has the frame's size
pub frame-size : (f : FrameValues) → HasSize f.tree.width f.tree.height (composed (rows_of f) f.tree.windows (frame_of f.tree)) → IfSome (selected_window f) (λ window. StandsIn window (frame_of f.tree)) → FitsFrame f
    → IsOfSize f.tree.width (f.tree.height + 1) (frame_picture f)
frame-size f size stands fits =
    let rows = composed (rows_of f) f.tree.windows (frame_of f.tree) in
    let cursor = cursor-on-frame f (selected_window f) stands fits.selected fits.cursor in
    record {
      rows = length-append rows (f.echo ∷ []) ∙ ap (λ (n : ℕ). n + 1) size.0;
      each = All-append (λ row. length row ≡ f.tree.width) rows (f.echo ∷ []) size.1 (All-cons (λ row. length row ≡ f.tree.width) f.echo [] fits.echo (All-nil (λ row. length row ≡ f.tree.width)));
      row = let a = cursor.0 in omega arith;
      column = cursor.1;
    }

pub frame-width : (f : FrameValues) → IsOfSize f.tree.width (f.tree.height + 1) (frame_picture f) → width_of (frame_rows f) ≡ f.tree.width
frame-width f size = grid-width f.tree.width (frame_rows f) (let n = size.rows in omega arith) size.each

-- what holds of each part of a frame holds of its rows
pub echo-each : (P : List Cell → Type 0) (f : FrameValues) → All P (composed (rows_of f) f.tree.windows (frame_of f.tree)) → P f.echo → All P (frame_rows f)
echo-each P f rows echo = All-append P (composed (rows_of f) f.tree.windows (frame_of f.tree)) (f.echo ∷ []) rows (All-cons P f.echo [] echo (All-nil P))

pub windows-each : (P : List Cell → Type 0) → ((left right : List Cell) → P left → P right → P (left ++ right)) → ((columns : ℕ) → P (blank_row columns)) → (f : FrameValues) → EachPartOf P f
    → All (λ window. All P (rows_of f window)) (placed f.tree.windows (frame_of f.tree))
windows-each P both blanks f each =
    All-weaker (λ window. EachPart P (f.panes window) window) (λ window. All P (rows_of f window)) (λ window part. window-each P both blanks f.tree.width (f.panes window) window part) (placed f.tree.windows (frame_of f.tree)) each.windows
