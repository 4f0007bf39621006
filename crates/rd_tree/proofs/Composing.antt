-- The rows of a frame, from those of its windows.
use Rattle.std.proofs.Common.{◌≡◌, ℕ, zero, suc, ◌+◌, ◌-◌, ◌≤◌, ◌<◌, true, List, [], ◌∷◌, ◌++◌, length, length-append, Some, inl, inr, refl, sym, ap, ap₂, ◌∙◌, arith}
use Rattle.std.specs.Prelude.{slice_get}
use Rattle.std.specs.List.{All, AllByRecursion}
use Rattle.std.proofs.lemmas.Bool.{cases_Bool}
use Rattle.std.proofs.lemmas.Bool.Decides.{nat_tests}
use Rattle.std.proofs.lemmas.List.{get_or_append_left, get_or-append_right}
use Rattle.std.proofs.lemmas.List.Elements.{recursion_from_All, All-from_recursion, All-append, All-get_or}
use Rattle.std.specs.Int.{from_bool}
use Rattle.rd_base.proofs.Lists.{all-front, all-back, get-first, get-second}
use Rattle.rd_base.proofs.Rows.{behind-whole}
use Rattle.rd_base.specs.declared.cell.Cell.{Cell}
use Rattle.rd_base.specs.Cells.{IsColoured, AreColoured, row_at}
use Rattle.rd_base.specs.Glyphs.{IsRowAfter}
use Rattle.rd_tree.specs.declared.rect.Rect.{Rect}
use Rattle.rd_tree.specs.declared.side.Side.{Side}
use Rattle.rd_tree.specs.declared.side.Side.TheVariants.{Below, Right}
use Rattle.rd_tree.specs.declared.placed.Placed.{Placed}
use Rattle.rd_tree.specs.Windows.{Windows, Window, Split, HasRoom, first_part, second_part, along, placed}
use Rattle.rd_tree.specs.Places.{lies_in, windows_with, IsWithin}
use Rattle.rd_tree.specs.Compositions.{beside, both_parts, composed, cell_at, HasSize, FillsItsRectangle, FillTheirRectangles, IsHeld}
use Rattle.rd_tree.proofs.Rooms.{room_within}
use Rattle.rd_tree.proofs.Standing.{in_one, one_window, stands_listed}

-- rows beside rows
beside-length : {C : Type 0} (lefts rights : List (List C)) → length lefts ≡ length rights → length (beside lefts rights) ≡ length lefts
beside-length [] rights e = refl
beside-length (left ∷ lefts) [] e = absurd (omega arith)
beside-length (left ∷ lefts) (right ∷ rights) e = ap (λ (n : ℕ). suc n) (beside-length lefts rights (omega arith))

beside-row : {C : Type 0} (lefts rights : List (List C)) (row : ℕ) → length lefts ≡ length rights → row_at (beside lefts rights) row ≡ row_at lefts row ++ row_at rights row
beside-row [] [] row e = refl
beside-row [] (right ∷ rights) row e = absurd (omega arith)
beside-row (left ∷ lefts) [] row e = absurd (omega arith)
beside-row (left ∷ lefts) (right ∷ rights) zero e = refl
beside-row (left ∷ lefts) (right ∷ rights) (suc row) e = beside-row lefts rights row (omega arith)

beside-all : {C : Type 0} (P Q R : List C → Type 0) → ((left right : List C) → P left → Q right → R (left ++ right)) → (lefts rights : List (List C)) → AllByRecursion P lefts → AllByRecursion Q rights → AllByRecursion R (beside lefts rights)
beside-all P Q R both [] rights p q = tt
beside-all P Q R both (left ∷ lefts) [] p q = tt
beside-all P Q R both (left ∷ lefts) (right ∷ rights) p q = (both left right p.0 q.0, beside-all P Q R both lefts rights p.1 q.1)

-- the rows of both parts of a split rectangle fill it
both-size : {C : Type 0} (side : Side) (size : ℕ) (rect : Rect) (firsts seconds : List (List C)) → size ≤ along side rect
    → let a = first_part side size rect in
    let b = second_part side size rect in
    HasSize a.width a.height firsts → HasSize b.width b.height seconds → HasSize rect.width rect.height (both_parts side firsts seconds)
both-size Right size rect lefts rights within a b = (
  beside-length lefts rights (a.0 ∙ sym b.0) ∙ a.0,
  All-from_recursion (λ row. length row ≡ rect.width) (beside lefts rights)
      (beside-all (λ row. length row ≡ size) (λ row. length row ≡ rect.width - size) (λ row. length row ≡ rect.width) (λ left right p q. omega (arith, length-append left right)) lefts rights
      (recursion_from_All (λ row. length row ≡ size) lefts a.1) (recursion_from_All (λ row. length row ≡ rect.width - size) rights b.1)),
)
both-size Below size rect tops rests within a b =
    (omega (arith, length-append tops rests, a.0, b.0), All-append (λ row. length row ≡ rect.width) tops rests a.1 b.1)

-- what holds of a window alone by what holds of each window that stands, and of a split by both of its parts, holds of all windows
by_windows : (P : Placed → Type 0) (Goal : Windows → Rect → Type 0)
    → ((window : Placed) → P window → Goal (Window window.number window.mode window.margins) window.rect)
    → ((side : Side) (size : ℕ) (first second : Windows) (rect : Rect) → Goal first (first_part side size rect) → Goal second (second_part side size rect) → Goal (Split side size first second) rect)
    → (windows : Windows) (rect : Rect) → All P (placed windows rect) → Goal windows rect
by_windows P Goal one both (Window number mode margins) rect h = one _ (recursion_from_All P (placed (Window number mode margins) rect) h).0
by_windows P Goal one both (Split side size first second) rect h =
    both side size first second rect (by_windows P Goal one both first _ (all-front P _ _ h)) (by_windows P Goal one both second _ (all-back P _ _ h))

-- the rows fill the rectangle
pub composed-size : {C : Type 0} (rows_of : Placed → List (List C)) (windows : Windows) (rect : Rect) → HasRoom windows rect → FillTheirRectangles rows_of (placed windows rect) → HasSize rect.width rect.height (composed rows_of windows rect)
composed-size rows_of windows rect h f =
    by_windows (FillsItsRectangle rows_of) (λ ws r. HasRoom ws r → HasSize r.width r.height (composed rows_of ws r)) (λ _ filled _. filled)
    (λ side size first second r a b room. both-size side size r _ _ (room_within side size first second r room).0 (a room.0) (b room.1)) windows rect f h

-- where a cell that lies in a rectangle is
lies_where : (column row : ℕ) (rect : Rect) → lies_in column row rect ≡ true → (rect.x ≤ column) × (column < rect.x + rect.width) × (rect.y ≤ row) × (row < rect.y + rect.height)
lies_where column row rect e = (grind (arith, nat_tests), grind (arith, nat_tests), grind (arith, nat_tests), grind (arith, nat_tests))

row_size : {C : Type 0} (width height row : ℕ) (rows : List (List C)) → HasSize width height rows → row < height → length (row_at rows row) ≡ width
row_size width height row rows s p = All-get_or (λ r. length r ≡ width) rows row [] (omega (arith, s.0)) s.1

-- a cell of a split rectangle is that of the part in which a window stands that holds it
parts-cell : {C : Type 0} (rows_of : Placed → List (List C)) (side : Side) (size : ℕ) (first second : Windows) (rect : Rect) (column row : ℕ) (window : Placed) → HasRoom (Split side size first second) rect → FillTheirRectangles rows_of (placed (Split side size first second) rect) → lies_in column row window.rect ≡ true
    → let a = first_part side size rect in
    let b = second_part side size rect in
    let cell = cell_at (column - rect.x) (row - rect.y) (composed rows_of (Split side size first second) rect) in
    (IsWithin window.rect a → cell ≡ cell_at (column - a.x) (row - a.y) (composed rows_of first a)) × (IsWithin window.rect b → cell ≡ cell_at (column - b.x) (row - b.y) (composed rows_of second b))
parts-cell {C = C} rows_of Right size first second rect column row window h f l =
    let at = lies_where column row window.rect l in
    let lefts = composed rows_of first (first_part Right size rect) in
    let rights = composed rows_of second (second_part Right size rect) in
    let a = composed-size rows_of first (first_part Right size rect) h.0 (all-front (FillsItsRectangle rows_of) _ _ f) in
    let b = composed-size rows_of second (second_part Right size rect) h.1 (all-back (FillsItsRectangle rows_of) _ _ f) in
    let both = ap (λ (r : List C). slice_get r (column - rect.x)) (beside-row lefts rights (row - rect.y) (a.0 ∙ sym b.0)) in
    let wide : row - rect.y < rect.height → length (row_at lefts (row - rect.y)) ≡ size = row_size size rect.height (row - rect.y) lefts a in (
      λ within. both ∙ get-first (row_at lefts (row - rect.y)) (row_at rights (row - rect.y)) (column - rect.x) (omega (arith, wide (omega arith))),
      λ within. both ∙ get-second (row_at lefts (row - rect.y)) (row_at rights (row - rect.y)) (column - rect.x) (column - (rect.x + size)) (omega (arith, wide (omega arith))),
    )
parts-cell {C = C} rows_of Below size first second rect column row window h f l =
    let at = lies_where column row window.rect l in
    let tops = composed rows_of first (first_part Below size rect) in
    let rests = composed rows_of second (second_part Below size rect) in
    let a = composed-size rows_of first (first_part Below size rect) h.0 (all-front (FillsItsRectangle rows_of) _ _ f) in
    let same : IsWithin window.rect (second_part Below size rect) → (row - rect.y) - size ≡ row - (rect.y + size) = λ within. omega arith in (
      λ within. ap (λ (r : List C). slice_get r (column - rect.x)) (get_or_append_left tops rests [] (row - rect.y) (omega (arith, a.0))),
      λ within. ap (λ (r : List C). slice_get r (column - rect.x)) (get_or-append_right tops rests size (row - rect.y) [] a.0 (omega arith) ∙ ap (row_at rests) (same within)),
    )

-- each cell is that of the window that holds it
pub composed-cell : {C : Type 0} (rows_of : Placed → List (List C)) (windows : Windows) (rect : Rect) (column row i : ℕ) (window : Placed) → HasRoom windows rect → FillTheirRectangles rows_of (placed windows rect) → slice_get (placed windows rect) i ≡ Some window → lies_in column row window.rect ≡ true
    → cell_at (column - rect.x) (row - rect.y) (composed rows_of windows rect) ≡ cell_at (column - window.rect.x) (row - window.rect.y) (rows_of window)
composed-cell rows_of (Window number mode margins) rect column row zero window h f e l =
    let s : record { number = number; mode = mode; margins = margins; rect = rect } ≡ window = cc in
    rw (← s) refl
composed-cell rows_of (Window number mode margins) rect column row (suc i) window h f e l = absurd (cc)
composed-cell rows_of (Split side size first second) rect column row i window h f e l =
    let a = first_part side size rect in
    let b = second_part side size rect in
    let parts = parts-cell rows_of side size first second rect column row window h f l in
    elim (in_one (placed first a) (placed second b) i window e) [
      | inl p ↦ parts.0 (stands_listed first a p.0 window h.0 p.1).0 ∙ composed-cell rows_of first a column row p.0 window h.0 (all-front (FillsItsRectangle rows_of) _ _ f) p.1 l
      | inr p ↦ parts.1 (stands_listed second b p.0 window h.1 p.1).0 ∙ composed-cell rows_of second b column row p.0 window h.1 (all-back (FillsItsRectangle rows_of) _ _ f) p.1 l
    ]

-- one of the windows holds each cell
some_holds : (column row : ℕ) (windows : List Placed) → 1 ≤ windows_with column row windows → IsHeld column row windows
some_holds column row [] p = absurd (omega arith)
some_holds column row (window ∷ windows) p =
    elim (cases_Bool (lies_in column row window.rect)) [
      | inl l ↦ (0, window, refl, l)
      | inr l ↦
          let rest = some_holds column row windows (let q = rw l at p in omega (arith, q)) in
          (suc rest.0, rest.1, rest.2, rest.3)
    ]

pub composed-held : (windows : Windows) (rect : Rect) (column row : ℕ) → HasRoom windows rect → lies_in column row rect ≡ true → IsHeld column row (placed windows rect)
composed-held windows rect column row h l =
    let once : from_bool (lies_in column row rect) ≡ 1 = rw l refl in
    some_holds column row (placed windows rect) (omega (arith, one_window windows rect h column row))

both-each : {C : Type 0} (P : List C → Type 0) → ((left right : List C) → P left → P right → P (left ++ right)) → (side : Side) (firsts seconds : List (List C)) → All P firsts → All P seconds → All P (both_parts side firsts seconds)
both-each P both Right lefts rights p q =
    All-from_recursion P (beside lefts rights) (beside-all P P P both lefts rights (recursion_from_All P lefts p) (recursion_from_All P rights q))
both-each P both Below tops rests p q = All-append P tops rests p q

-- what holds of rows that stand beside each other where it holds of both holds of the frame's rows where it holds of the windows'
composed-each : {C : Type 0} (P : List C → Type 0) → ((left right : List C) → P left → P right → P (left ++ right)) → (rows_of : Placed → List (List C)) (windows : Windows) (rect : Rect) → All (λ window. All P (rows_of window)) (placed windows rect) → All P (composed rows_of windows rect)
composed-each P both rows_of =
    by_windows (λ window. All P (rows_of window)) (λ ws r. All P (composed rows_of ws r)) (λ _ h. h) (λ side _ _ _ _. both-each P both side _ _)

pub composed-whole : (rows_of : Placed → List (List Cell)) (windows : Windows) (rect : Rect) → All (λ window. All (IsRowAfter 0) (rows_of window)) (placed windows rect) → All (IsRowAfter 0) (composed rows_of windows rect)
composed-whole rows_of windows rect h = composed-each (IsRowAfter 0) (behind-whole 0) rows_of windows rect h

pub composed-coloured : (rows_of : Placed → List (List Cell)) (windows : Windows) (rect : Rect) → All (λ window. AreColoured (rows_of window)) (placed windows rect) → AreColoured (composed rows_of windows rect)
composed-coloured rows_of windows rect h = composed-each (λ row. All IsColoured row) (λ left right p q. All-append IsColoured left right p q) rows_of windows rect h

-- nothing but the rows of the windows counts
pub composed-same : {C : Type 0} (rows_of others : Placed → List (List C)) (windows : Windows) (rect : Rect) → All (λ window. rows_of window ≡ others window) (placed windows rect) → composed rows_of windows rect ≡ composed others windows rect
composed-same rows_of others =
    by_windows (λ window. rows_of window ≡ others window) (λ ws r. composed rows_of ws r ≡ composed others ws r) (λ _ h. h)
    (λ side _ _ _ _. ap₂ (both_parts side))
