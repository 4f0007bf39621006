-- Screens whose rows are painted one after the other.
use Rattle.std.proofs.Common.{◌≡◌, ℕ, zero, suc, ◌+◌, ◌-◌, ◌<◌, ◌≤◌, Bool, true, false, Some, List, [], ◌∷◌, ◌++◌, length, take, get_or, refl, sym, ◌∙◌, ap, arith}
use Rattle.std.specs.Prelude.{map, replicate, slice_get, if◌then◌else◌}
use Rattle.std.specs.List.{AllByRecursion}
use Rattle.std.proofs.lemmas.List.{append-nil, map-append, length-map, length-take-le, take_all, get_or-map, take_more}
use Rattle.rd_base.specs.Cells.{row_at}
use Rattle.rd_base.specs.declared.cell.Cell.{Cell}
use Rattle.rd_matrix.specs.declared.matrix.Entry.{Entry}
use Rattle.rd_term.specs.Pictures.{Picture, blank_row, width_of, with_cells}
use Rattle.rd_tree.specs.declared.placed.Placed.{Placed}
use Rattle.rd_frame.specs.Panes.{GlyphRow, PaneValues, body_width, body_height, row_cells, body_rows, bordered, window_rows}
use Rattle.rd_frame.specs.Held.{glyph_rows}
use Rattle.rd_frame.specs.Paints.{laid_from, with_rectangle, with_echo}
use Rattle.rd_frame.proofs.Painting.{written-length, written-whole, laid_at, at-rectangle, at-below, at-more, cells-behind}
use Rattle.rd_frame.proofs.Filling.{body-length}

-- ---- one row

-- a screen whose rows are changed twice
pub twice : (old mid new : Picture) (first second third : List (List Cell)) → mid ≡ record old { rows = first } → new ≡ record mid { rows = second } → second ≡ third → new ≡ record old { rows = third }
twice old mid new first second third e f g =
    f ∙ (ap (λ (p : Picture). let q : Picture = record p { rows = second } in q) e ∙ ap (λ (rows : List (List Cell)). let q : Picture = record old { rows = rows } in q) g)

pub cells-width : (rows : List (List Cell)) (row column : ℕ) (cells : List Cell) → column + length cells ≤ width_of rows → width_of (with_cells rows row column cells) ≡ width_of rows
cells-width [] row column cells room = refl
cells-width (top ∷ rows) zero column cells room = written-length column cells top room
cells-width (top ∷ rows) (suc row) column cells room = refl

-- the border beside cells of a row
pub border-beside : (test : Bool) (rows : List (List Cell)) (row column at : ℕ) (cells : List Cell) (border : Cell) → column ≤ length (row_at rows row) → (test ≡ true → at ≡ column + length cells)
    → (if test then with_cells (with_cells rows row column cells) row at (border ∷ []) else with_cells rows row column cells) ≡ with_cells rows row column (if test then cells ++ border ∷ [] else cells)
border-beside true rows row column at cells border inside place = cells-behind rows row column at cells (border ∷ []) inside (place refl)
border-beside false rows row column at cells border inside place = refl

pub border-place : (test : Bool) (x width cells : ℕ) → cells + (if test then 1 else 0) ≡ width → test ≡ true → x + width - 1 ≡ x + cells
border-place true x width cells shares is = omega arith
border-place false x width cells shares is = absurd (cc)

-- ---- rows one after the other

abbrev laid_on : Picture → ℕ → ℕ → List (List Cell) → Picture
laid_on screen row column news = record screen { rows = laid_at row column news screen.rows }

-- a screen of the same size, over which rows of a window's text are painted from a row on, with the border beside each
pub record IsLaid (window : Placed) (border : Cell) (old new : Picture) (row : ℕ) (texts : List (List Cell)) : Type 0 where
  pub painted : new ≡ laid_on old row window.rect.x (map (bordered (width_of old.rows) window border) texts)
  pub columns : width_of new.rows ≡ width_of old.rows
  pub rows : length new.rows ≡ length old.rows

at-none : (row column : ℕ) (rows : List (List Cell)) → laid_at row column [] rows ≡ rows
at-none zero column rows = refl
at-none (suc row) column [] = refl
at-none (suc row) column (top ∷ rows) = ap (λ (xs : List (List Cell)). top ∷ xs) (at-none row column rows)

pub laid-none : (window : Placed) (border : Cell) (screen : Picture) (row : ℕ) → IsLaid window border screen screen row []
laid-none window border screen row = record {
  painted = ap (λ (rows : List (List Cell)). let p : Picture = record screen { rows = rows } in p) (sym (at-none row window.rect.x screen.rows));
  columns = refl;
  rows = refl;
}

-- all rows of a window are painted
pub laid-whole : (window : Placed) (border : Cell) (old new : Picture) (row i : ℕ) (texts : List (List Cell)) → length texts ≤ i → IsLaid window border old new row (take i texts)
    → new ≡ record old { rows = laid_from row window.rect.x (map (bordered (width_of old.rows) window border) texts) old.rows }
laid-whole window border old new row i texts whole laid =
    let beside = bordered (width_of old.rows) window border in
    laid.painted
    ∙ (ap (λ (xs : List (List Cell)). laid_on old row window.rect.x (map beside xs)) (take_all i texts whole)
    ∙ ap (λ (rows : List (List Cell)). let p : Picture = record old { rows = rows } in p) (sym (at-rectangle row window.rect.x (map beside texts) old.rows)))

pub laid-step : (window : Placed) (border : Cell) (old mid new : Picture) (row at i : ℕ) (texts : List (List Cell)) (cells : List Cell) → i < length texts → at ≡ row + i → get_or texts i [] ≡ cells
    → IsLaid window border old mid row (take i texts) → new ≡ record mid { rows = with_cells mid.rows at window.rect.x (bordered (width_of mid.rows) window border cells) }
    → width_of new.rows ≡ width_of mid.rows → length new.rows ≡ length mid.rows → IsLaid window border old new row (take (i + 1) texts)
laid-step window border old mid new row at i texts cells inside place here laid painted columns rows =
    let x = window.rect.x in
    let beside = bordered (width_of old.rows) window border in
    let before = map beside (take i texts) in
    let count : length before ≡ i = length-map (take i texts) beside ∙ length-take-le i texts (omega arith) in
    let news : before ++ beside cells ∷ [] ≡ map beside (take (i + 1) texts)
    = ap (λ (c : List Cell). before ++ beside c ∷ []) (sym here) ∙ (sym (map-append beside (take i texts) (get_or texts i [] ∷ [])) ∙ ap (map beside) (sym (take_more texts i [] inside))) in
    let more : with_cells (laid_at row x before old.rows) at x (beside cells) ≡ laid_at row x (map beside (take (i + 1) texts)) old.rows
    = at-more row at x before (beside cells) old.rows (omega arith) ∙ ap (λ (xs : List (List Cell)). laid_at row x xs old.rows) news in
    record {
      painted = painted
          ∙ (ap (λ (n : ℕ). let p : Picture = record mid { rows = with_cells mid.rows at x (bordered n window border cells) } in p) laid.columns
          ∙ (ap (λ (p : Picture). let q : Picture = record p { rows = with_cells p.rows at x (beside cells) } in q) laid.painted
          ∙ ap (λ (xs : List (List Cell)). let p : Picture = record old { rows = xs } in p) more));
      columns = columns ∙ laid.columns;
      rows = rows ∙ laid.rows;
    }

-- ---- the rows of a matrix

pub glyph-count : (margins : List (List Cell)) (es : List Entry) → length (glyph_rows margins es) ≡ length es
glyph-count margins [] = refl
glyph-count [] (e ∷ es) = ap suc (glyph-count [] es)
glyph-count (margin ∷ margins) (e ∷ es) = ap suc (glyph-count margins es)

pub glyph-at : (margins : List (List Cell)) (es : List Entry) (i : ℕ) (e : Entry) (d : GlyphRow) → slice_get es i ≡ Some e → get_or (glyph_rows margins es) i d ≡ record { margin = get_or margins i []; text = e.row.shown.cells }
glyph-at margins [] i e d here = absurd (cc)
glyph-at [] (x ∷ es) zero e d here = let same : x ≡ e = cc in ap (λ (y : Entry). let r : GlyphRow = record { margin = []; text = y.row.shown.cells } in r) same
glyph-at [] (x ∷ es) (suc i) e d here = glyph-at [] es i e d here
glyph-at (margin ∷ margins) (x ∷ es) zero e d here = let same : x ≡ e = cc in ap (λ (y : Entry). let r : GlyphRow = record { margin = margin; text = y.row.shown.cells } in r) same
glyph-at (margin ∷ margins) (x ∷ es) (suc i) e d here = glyph-at margins es i e d here

-- the row at a place among the rows of a matrix
pub row-of-matrix : (margins : List (List Cell)) (es : List Entry) (i : ℕ) (e : Entry) → i < length es → slice_get es i ≡ Some e
    → get_or (map row_cells (glyph_rows margins es)) i [] ≡ get_or margins i [] ++ e.row.shown.cells
row-of-matrix margins es i e inside here =
    let d : GlyphRow = record { margin = []; text = [] } in
    let count = glyph-count margins es in
    get_or-map row_cells (glyph_rows margins es) i d [] (omega arith) ∙ ap row_cells (glyph-at margins es i e d here)

-- ---- a window

line-below : (mode : Bool) (row at column : ℕ) (news rows : List (List Cell)) (cells : List Cell) → at ≡ row + length news
    → (if mode then with_cells (laid_at row column news rows) at column cells else laid_at row column news rows) ≡ laid_at row column (news ++ (if mode then cells ∷ [] else [])) rows
line-below true row at column news rows cells e = at-more row at column news cells rows e
line-below false row at column news rows cells e = ap (λ (xs : List (List Cell)). laid_at row column xs rows) (sym (append-nil news))

-- the rows of a matrix, the blank rows below them and the mode line are those of the window
pub window-painted : (width : ℕ) (pane : PaneValues) (window : Placed) (rows texts all : List (List Cell)) (from : ℕ) → from ≡ length pane.rows → from ≤ body_height window
    → texts ≡ laid_from window.rect.y window.rect.x (map (bordered width window pane.border) (map row_cells pane.rows)) rows
    → all ≡ laid_from (window.rect.y + from) window.rect.x (map (bordered width window pane.border) (replicate (body_height window - from) (blank_row (window.margins + body_width width window)))) texts
    → (if window.mode then with_cells all (window.rect.y + body_height window) window.rect.x pane.mode_line else all) ≡ with_rectangle window.rect (window_rows width pane window) rows
window-painted width pane window rows texts all from count few e f =
    let x = window.rect.x in
    let y = window.rect.y in
    let beside = bordered width window pane.border in
    let columns : ℕ = window.margins + body_width width window in
    let glyphs = map row_cells pane.rows in
    let blanks = replicate (body_height window - from) (blank_row columns) in
    let body = map beside (body_rows columns (body_height window) pane.rows) in
    let first : texts ≡ laid_at y x (map beside glyphs) rows = e ∙ at-rectangle y x (map beside glyphs) rows in
    let at : y + from ≡ y + length (map beside glyphs) = omega (arith, length-map glyphs beside, length-map pane.rows row_cells) in
    let whole : map beside glyphs ++ map beside blanks ≡ body
    = sym (map-append beside glyphs blanks) ∙ ap (λ (n : ℕ). map beside (glyphs ++ replicate (body_height window - n) (blank_row columns))) count in
    let both : all ≡ laid_at y x body rows
    = f ∙ (at-rectangle (y + from) x (map beside blanks) texts
    ∙ (ap (laid_at (y + from) x (map beside blanks)) first
    ∙ (at-below y (y + from) x (map beside glyphs) (map beside blanks) rows at
    ∙ ap (λ (xs : List (List Cell)). laid_at y x xs rows) whole))) in
    let size : length body ≡ body_height window = length-map (body_rows columns (body_height window) pane.rows) beside ∙ body-length columns (body_height window) pane.rows (omega arith) in
    ap (λ (xs : List (List Cell)). if window.mode then with_cells xs (y + body_height window) x pane.mode_line else xs) both
    ∙ (line-below window.mode y (y + body_height window) x body rows pane.mode_line (omega arith)
    ∙ sym (at-rectangle y x (window_rows width pane window) rows))

-- ---- the echo area

pub echo-painted : (last : ℕ) (cells : List Cell) (rows : List (List Cell)) → last + 1 ≡ length rows → AllByRecursion (λ row. length row ≡ length cells) rows → with_cells rows last 0 cells ≡ with_echo cells rows
echo-painted last cells [] e h = absurd (omega arith)
echo-painted zero cells (row ∷ []) e h = ap (λ (r : List Cell). r ∷ []) (written-whole cells row h.0)
echo-painted zero cells (row ∷ next ∷ rows) e h = absurd (omega arith)
echo-painted (suc last) cells (row ∷ []) e h = absurd (omega arith)
echo-painted (suc last) cells (row ∷ next ∷ rows) e h = ap (λ (xs : List (List Cell)). row ∷ xs) (echo-painted last cells (next ∷ rows) (omega arith) h.1)
