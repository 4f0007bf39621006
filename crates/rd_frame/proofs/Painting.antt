-- Rectangles that are painted one after the other.
use Rattle.std.proofs.Common.{◌≡◌, ℕ, zero, suc, ◌+◌, ◌≤◌, List, [], ◌∷◌, ◌++◌, length, take, drop, refl, sym, ◌∙◌, ap, arith, length-append}
use Rattle.std.proofs.Math.Seq.{paste}
use Rattle.std.specs.List.{AllByRecursion}
use Rattle.std.proofs.lemmas.List.{append-nil, length-drop, drop_all}
use Rattle.std.proofs.lemmas.List.Edits.{length-paste, paste_all, paste-paste}
use Rattle.std.proofs.lemmas.List.Elements.{recursion_from_All}
use Rattle.std.proofs.lemmas.List.Sums.{fold-append}
use Rattle.rd_base.proofs.Lists.{all-back, all-front, each-weaker}
use Rattle.rd_base.specs.Cells.{row_at}
use Rattle.rd_term.specs.Pictures.{with_cells, written_over}
use Rattle.rd_tree.specs.declared.placed.Placed.{Placed}
use Rattle.rd_tree.specs.declared.rect.Rect.{Rect}
use Rattle.rd_tree.specs.declared.side.Side.{Side}
use Rattle.rd_tree.specs.declared.side.Side.TheVariants.{Below, Right}
use Rattle.rd_tree.specs.Windows.{Windows, Window, Split, HasRoom, first_part, second_part, placed}
use Rattle.rd_tree.specs.Calls.{frame}
use Rattle.rd_tree.specs.Compositions.{beside, composed, HasSize, FillsItsRectangle, FillTheirRectangles}
use Rattle.rd_tree.proofs.Composing.{composed-size}
use Rattle.rd_tree.proofs.Standing.{parts_within}
use Rattle.rd_frame.specs.Paints.{laid_over, painted, with_echo}

-- ---- a row

-- cells written over a row are what the library's `paste` leaves
pasted : {C : Type 0} (column : ℕ) (cells row : List C) → written_over column cells row ≡ paste row column cells (length cells)
pasted column cells row = sym (paste_all row column cells (length cells) refl)

-- cells behind cells that were written
pub written-behind : {C : Type 0} (column at : ℕ) (first second row : List C) → column ≤ length row → at ≡ column + length first → written_over at second (written_over column first row) ≡ written_over column (first ++ second) row
written-behind column at first second row inside e =
    ap (λ k. written_over k second (written_over column first row)) e
    ∙ ap (written_over (column + length first) second) (pasted column first row)
    ∙ pasted (column + length first) second (paste row column first (length first))
    ∙ paste-paste row column first second (length first) (length second) refl refl inside
    ∙ ap (paste row column (first ++ second)) (sym (length-append first second))
    ∙ sym (pasted column (first ++ second) row)

-- the columns of a row that is written over, where the cells have room
pub written-length : {C : Type 0} (column : ℕ) (cells row : List C) → column + length cells ≤ length row → length (written_over column cells row) ≡ length row
written-length column cells row room = ap length (pasted column cells row) ∙ length-paste row column cells (length cells) room (omega arith)

-- a whole row is written anew
pub written-whole : {C : Type 0} (cells row : List C) → length row ≡ length cells → written_over 0 cells row ≡ cells
written-whole {C = C} cells row e = ap (λ (xs : List C). cells ++ xs) (drop_all (0 + length cells) row (omega arith)) ∙ append-nil cells

-- ---- rows

-- rows laid over others from a row on
abbrev pub laid_at : {C : Type 0} → ℕ → ℕ → List (List C) → List (List C) → List (List C)
laid_at zero column news rows = laid_over column news rows
laid_at (suc y) column news [] = []
laid_at (suc y) column news (row ∷ rows) = row ∷ laid_at y column news rows

over-none : {C : Type 0} (column : ℕ) (news : List (List C)) → laid_over column news [] ≡ []
over-none column [] = refl
over-none column (new ∷ news) = refl

pub at-rectangle : {C : Type 0} (y column : ℕ) (news rows : List (List C)) → take y rows ++ laid_over column news (drop y rows) ≡ laid_at y column news rows
at-rectangle zero column news rows = refl
at-rectangle (suc y) column news [] = over-none column news
at-rectangle {C = C} (suc y) column news (row ∷ rows) = ap (λ (xs : List (List C)). row ∷ xs) (at-rectangle y column news rows)

-- rows that have at least so many columns
abbrev pub AreWide : {C : Type 0} → ℕ → List (List C) → Type 0
AreWide n rows = AllByRecursion (λ row. n ≤ length row) rows

pub narrower : {C : Type 0} (n m : ℕ) (rows : List (List C)) → m ≤ n → AreWide n rows → AreWide m rows
narrower n m rows less h = each-weaker (λ row. n ≤ length row) (λ row. m ≤ length row) (λ row a. omega (arith, less, a)) rows h

pub just-wide : {C : Type 0} (n : ℕ) (rows : List (List C)) → AllByRecursion (λ row. length row ≡ n) rows → AreWide n rows
just-wide n rows h = each-weaker (λ row. length row ≡ n) (λ row. n ≤ length row) (λ row a. omega (arith, a)) rows h

-- what holds of each row, and of a row over which one of the new ones is written, holds of each row where all are laid
over-each : {C : Type 0} (P Q : List C → Type 0) (column : ℕ) → ((new row : List C) → Q new → P row → P (written_over column new row)) → (news rows : List (List C)) → AllByRecursion Q news → AllByRecursion P rows
    → AllByRecursion P (laid_over column news rows)
over-each P Q column keeps [] rows k h = h
over-each P Q column keeps (new ∷ news) [] k h = tt
over-each P Q column keeps (new ∷ news) (row ∷ rows) k h = (keeps new row k.0 h.0, over-each P Q column keeps news rows k.1 h.1)

pub at-each : {C : Type 0} (P Q : List C → Type 0) (column : ℕ) → ((new row : List C) → Q new → P row → P (written_over column new row)) → (y : ℕ) (news rows : List (List C)) → AllByRecursion Q news → AllByRecursion P rows
    → AllByRecursion P (laid_at y column news rows)
at-each P Q column keeps zero news rows k h = over-each P Q column keeps news rows k h
at-each P Q column keeps (suc y) news [] k h = tt
at-each P Q column keeps (suc y) news (row ∷ rows) k h = (h.0, at-each P Q column keeps y news rows k h.1)

-- rows beside rows that were laid
over-beside : {C : Type 0} (column at w : ℕ) (lefts rights rows : List (List C)) → at ≡ column + w → length lefts ≡ length rights → AllByRecursion (λ row. length row ≡ w) lefts → AreWide column rows
    → laid_over at rights (laid_over column lefts rows) ≡ laid_over column (beside lefts rights) rows
over-beside column at w [] [] rows e n l h = refl
over-beside column at w [] (right ∷ rights) rows e n l h = absurd (omega arith)
over-beside column at w (left ∷ lefts) [] rows e n l h = absurd (omega arith)
over-beside column at w (left ∷ lefts) (right ∷ rights) [] e n l h = refl
over-beside column at w (left ∷ lefts) (right ∷ rights) (row ∷ rows) e n l h =
    let first : written_over at right (written_over column left row) ≡ written_over column (left ++ right) row = let k = l.0 in written-behind column at left right row h.0 (omega arith) in
    let rest = over-beside column at w lefts rights rows e (omega arith) l.1 h.1 in
    rw (first, rest) refl

pub at-beside : {C : Type 0} (y column at w : ℕ) (lefts rights rows : List (List C)) → at ≡ column + w → length lefts ≡ length rights → AllByRecursion (λ row. length row ≡ w) lefts → AreWide column rows
    → laid_at y at rights (laid_at y column lefts rows) ≡ laid_at y column (beside lefts rights) rows
at-beside zero column at w lefts rights rows e n l h = over-beside column at w lefts rights rows e n l h
at-beside (suc y) column at w lefts rights [] e n l h = refl
at-beside {C = C} (suc y) column at w lefts rights (row ∷ rows) e n l h = ap (λ (xs : List (List C)). row ∷ xs) (at-beside y column at w lefts rights rows e n l h.1)

-- rows below rows that were laid
over-below : {C : Type 0} (column : ℕ) (tops rests rows : List (List C)) → laid_at (length tops) column rests (laid_over column tops rows) ≡ laid_over column (tops ++ rests) rows
over-below column [] rests rows = refl
over-below column (top ∷ tops) rests [] = refl
over-below {C = C} column (top ∷ tops) rests (row ∷ rows) = ap (λ (xs : List (List C)). written_over column top row ∷ xs) (over-below column tops rests rows)

pub at-below : {C : Type 0} (y at column : ℕ) (tops rests rows : List (List C)) → at ≡ y + length tops → laid_at at column rests (laid_at y column tops rows) ≡ laid_at y column (tops ++ rests) rows
at-below zero at column tops rests rows e = let s : at ≡ length tops = omega arith in rw s (over-below column tops rests rows)
at-below (suc y) zero column tops rests rows e = absurd (omega arith)
at-below (suc y) (suc at) column tops rests [] e = refl
at-below {C = C} (suc y) (suc at) column tops rests (row ∷ rows) e = ap (λ (xs : List (List C)). row ∷ xs) (at-below y at column tops rests rows (omega arith))

-- to lay one row over others is to put its cells into one of these
pub at-row : {C : Type 0} (y column : ℕ) (new : List C) (rows : List (List C)) → laid_at y column (new ∷ []) rows ≡ with_cells rows y column new
at-row zero column new [] = refl
at-row zero column new (row ∷ rows) = refl
at-row (suc y) column new [] = refl
at-row {C = C} (suc y) column new (row ∷ rows) = ap (λ (xs : List (List C)). row ∷ xs) (at-row y column new rows)

-- rows that are laid over others, with one row more
pub at-more : {C : Type 0} (y at column : ℕ) (news : List (List C)) (new : List C) (rows : List (List C)) → at ≡ y + length news → with_cells (laid_at y column news rows) at column new ≡ laid_at y column (news ++ new ∷ []) rows
at-more y at column news new rows e = sym (at-row at column new (laid_at y column news rows)) ∙ at-below y at column news (new ∷ []) rows e

-- cells behind cells in one row
pub cells-behind : {C : Type 0} (rows : List (List C)) (row column at : ℕ) (first second : List C) → column ≤ length (row_at rows row) → at ≡ column + length first
    → with_cells (with_cells rows row column first) row at second ≡ with_cells rows row column (first ++ second)
cells-behind [] row column at first second inside e = refl
cells-behind {C = C} (top ∷ rows) zero column at first second inside e = ap (λ (r : List C). r ∷ rows) (written-behind column at first second top inside e)
cells-behind {C = C} (top ∷ rows) (suc row) column at first second inside e = ap (λ (xs : List (List C)). top ∷ xs) (cells-behind rows row column at first second inside e)

-- ---- sizes

over-length : {C : Type 0} (column : ℕ) (news rows : List (List C)) → length (laid_over column news rows) ≡ length rows
over-length column [] rows = refl
over-length column (new ∷ news) [] = refl
over-length column (new ∷ news) (row ∷ rows) = ap suc (over-length column news rows)

pub at-length : {C : Type 0} (y column : ℕ) (news rows : List (List C)) → length (laid_at y column news rows) ≡ length rows
at-length zero column news rows = over-length column news rows
at-length (suc y) column news [] = refl
at-length (suc y) column news (row ∷ rows) = ap suc (at-length y column news rows)

-- ---- windows

-- the second part of a split rectangle, laid over the first
parts-laid : {C : Type 0} (rows_of : Placed → List (List C)) (side : Side) (size : ℕ) (first second : Windows) (rect : Rect) (rows : List (List C)) → HasRoom (Split side size first second) rect → FillTheirRectangles rows_of (placed (Split side size first second) rect) → AreWide rect.x rows
    → let a = first_part side size rect in
    let b = second_part side size rect in
    laid_at b.y b.x (composed rows_of second b) (laid_at a.y a.x (composed rows_of first a) rows) ≡ laid_at rect.y rect.x (composed rows_of (Split side size first second) rect) rows
parts-laid rows_of Right size first second rect rows h f wide =
    let lefts = composed rows_of first (first_part Right size rect) in
    let rights = composed rows_of second (second_part Right size rect) in
    let left_size = composed-size rows_of first (first_part Right size rect) h.0 (all-front (FillsItsRectangle rows_of) _ _ f) in
    let right_size = composed-size rows_of second (second_part Right size rect) h.1 (all-back (FillsItsRectangle rows_of) _ _ f) in
    at-beside rect.y rect.x (rect.x + size) size lefts rights rows refl (left_size.0 ∙ sym right_size.0) (recursion_from_All (λ row. length row ≡ size) lefts left_size.1) wide
parts-laid rows_of Below size first second rect rows h f wide =
    let top_size = composed-size rows_of first (first_part Below size rect) h.0 (all-front (FillsItsRectangle rows_of) _ _ f) in
    at-below rect.y (rect.y + size) rect.x (composed rows_of first (first_part Below size rect)) (composed rows_of second (second_part Below size rect)) rows (omega (arith, top_size.0))

-- windows that are painted in order show what they compose
pub painted-composed : {C : Type 0} (rows_of : Placed → List (List C)) (windows : Windows) (rect : Rect) (rows : List (List C)) → HasRoom windows rect → FillTheirRectangles rows_of (placed windows rect) → AreWide (rect.x + rect.width) rows
    → painted rows_of (placed windows rect) rows ≡ laid_at rect.y rect.x (composed rows_of windows rect) rows
painted-composed rows_of (Window number mode margins) rect rows h f wide = at-rectangle rect.y rect.x (rows_of (record { number = number; mode = mode; margins = margins; rect = rect })) rows
painted-composed rows_of (Split side size first second) rect rows h f wide =
    let a = first_part side size rect in
    let b = second_part side size rect in
    let within = parts_within side size first second rect h in
    let news = composed rows_of first a in
    let laid = laid_at a.y a.x news rows in
    let fills = all-front (FillsItsRectangle rows_of) _ _ f in
    let sized = recursion_from_All (λ new. length new ≡ a.width) news (composed-size rows_of first a h.0 fills).1 in
    fold-append _ rows (placed first a) (placed second b)
    ∙ (ap (painted rows_of (placed second b)) (painted-composed rows_of first a rows h.0 fills (narrower (rect.x + rect.width) (a.x + a.width) rows within.0.1 wide))
    ∙ (painted-composed rows_of second b laid h.1 (all-back (FillsItsRectangle rows_of) _ _ f)
    (narrower (rect.x + rect.width) (b.x + b.width) laid within.1.1
    (at-each (λ row. rect.x + rect.width ≤ length row) (λ new. length new ≡ a.width) a.x (λ new row n m. omega (arith, m, written-length a.x new row (omega (arith, n, m, within.0.1)))) a.y news rows sized wide))
    ∙ parts-laid rows_of side size first second rect rows h f (narrower (rect.x + rect.width) rect.x rows (omega arith) wide)))

-- ---- a whole screen

over-whole : {C : Type 0} (w : ℕ) (news rows : List (List C)) → length news ≤ length rows → AllByRecursion (λ row. length row ≡ w) news → AllByRecursion (λ row. length row ≡ w) rows → laid_over 0 news rows ≡ news ++ drop (length news) rows
over-whole w [] rows few h k = refl
over-whole w (new ∷ news) [] few h k = absurd (omega arith)
over-whole w (new ∷ news) (row ∷ rows) few h k =
    let first : written_over 0 new row ≡ new = written-whole new row (k.0 ∙ sym h.0) in
    let rest = over-whole w news rows (omega arith) h.1 k.1 in
    rw (first, rest) refl

echo-last : {C : Type 0} (echo last : List C) (rows : List (List C)) → with_echo echo (rows ++ last ∷ []) ≡ rows ++ echo ∷ []
echo-last echo last [] = refl
echo-last echo last (row ∷ []) = refl
echo-last {C = C} echo last (row ∷ next ∷ rows) = ap (λ (xs : List (List C)). row ∷ xs) (echo-last echo last (next ∷ rows))

one-left : {C : Type 0} (rows : List (List C)) → length rows ≡ 1 → (last : List C) × (rows ≡ last ∷ [])
one-left [] e = absurd (omega arith)
one-left (row ∷ []) e = (row, refl)
one-left (row ∷ next ∷ rows) e = absurd (omega arith)

-- where windows fill all rows but the last, nothing is left of what was there
pub painted-whole : {C : Type 0} (rows_of : Placed → List (List C)) (windows : Windows) (width height : ℕ) (echo : List C) (rows : List (List C))
    → HasRoom windows (frame width height) → FillTheirRectangles rows_of (placed windows (frame width height)) → HasSize width (height + 1) rows
    → with_echo echo (painted rows_of (placed windows (frame width height)) rows) ≡ composed rows_of windows (frame width height) ++ echo ∷ []
painted-whole {C = C} rows_of windows width height echo rows room fill size =
    let news = composed rows_of windows (frame width height) in
    let filled = composed-size rows_of windows (frame width height) room fill in
    let each : AllByRecursion (λ (row : List C). length row ≡ width) rows = recursion_from_All (λ row. length row ≡ width) rows size.1 in
    let count = filled.0 in
    let rest = one-left (drop (length news) rows) (length-drop (length news) rows ∙ (let k = size.0 in omega arith)) in
    let over : painted rows_of (placed windows (frame width height)) rows ≡ news ++ drop (length news) rows
    = painted-composed rows_of windows (frame width height) rows room fill (narrower width (0 + width) rows (omega arith) (just-wide width rows each))
    ∙ over-whole width news rows (let k = size.0 in omega arith) (recursion_from_All (λ row. length row ≡ width) news filled.1) each in
    ap (with_echo echo) (over ∙ ap (λ (xs : List (List C)). news ++ xs) rest.1) ∙ echo-last echo rest.0 news
