-- Cells in place of others: the columns of characters that are cut, and rows that are filled part by part.
use Rattle.std.proofs.Common.{◌≡◌, if◌then◌else◌, ℕ, zero, suc, ◌+◌, ◌-◌, ◌<◌, ◌≤◌, Bool, List, ◌∷◌, ◌++◌, length, get_or, set, take, drop, map, replicate, Option, None, Some, refl, sym, ap, ◌∙◌, arith, append_assoc, drop_of_length-le}
use Rattle.std.proofs.lemmas.List.{take_at, drop_at, drop-set-lt, drop_more, length-append, length-take-le, length-replicate, length-drop, length-map}
use Rattle.std.proofs.lemmas.List.Folds.{drop_split}
use Rattle.std.proofs.lemmas.List.Sums.{prefix_len-le-length}
use Rattle.rd_base.proofs.Lists.{written}
use Rattle.rd_base.proofs.Rows.{glyph_length}
use Rattle.rd_base.specs.Faces.{Attributes}
use Rattle.rd_base.specs.Glyphs.{glyph_cells}
use Rattle.rd_base.specs.declared.cell.Glyph.{Glyph}
use Rattle.rd_base.specs.declared.cell.Cell.{Cell}
use Rattle.rd_term.specs.Overwriting.{is_later, first_column, later_columns, overwritten}
use Rattle.rd_term.specs.Walks.{passing}
use Rattle.rd_term.proofs.Shapes.{part-length}
use Rattle.rd_term.proofs.Walks.{back-le}

abbrev pub Row : Type 0
Row = List (Option Cell)

-- ---- the columns of a character

-- a test that says which columns of a row are later ones of characters
abbrev pub later_at : Row → ℕ → Bool
later_at row column = is_later (get_or row column None)

pub later-passing : (row : Row) (column more : ℕ) → column + more ≡ length row → passing (later_at row) column more ≡ later_columns (drop column row)
later-passing row column zero e = sym (ap later_columns (drop_of_length-le row (omega arith)))
later-passing row column (suc more) e =
    let next : column + 1 ≡ suc column = omega arith in
    ap (λ n. if later_at row column then 1 + n else 0) (later-passing row (suc column) more (omega arith) ∙ ap (λ k. later_columns (drop k row)) (sym next))
    ∙ sym (ap later_columns (drop_more row column None (omega arith)))

-- ---- parts of a row

pub filled-seam : {X : Type 0} (a m n c : List X) (from to : ℕ) → length a ≡ from → from + length m ≡ to
    → take from (a ++ (m ++ c)) ++ (n ++ drop to (a ++ (m ++ c))) ≡ a ++ (n ++ c)
filled-seam a m n c from to p q =
    let above = take_at a (m ++ c) from p in
    let size : length (a ++ m) ≡ to = omega (arith, length-append a m) in
    let below = ap (drop to) (sym (append_assoc a m c)) ∙ drop_at (a ++ m) c to size in
    rw (above, below) refl

-- the part before a column, where what is left of a character that is cut there is unknown
abbrev pub front : Row → ℕ → Row
front row column = take (first_column row column) row ++ replicate (column - first_column row column) None

pub length-front : (row : Row) (column : ℕ) → column ≤ length row → length (front row column) ≡ column
length-front row column le =
    let first = back-le (later_at row) column in
    length-append (take (first_column row column) row) (replicate (column - first_column row column) None)
    ∙ omega (arith, length-take-le (first_column row column) row (omega arith), length-replicate {A = Option Cell} (column - first_column row column) None)

-- the part from a column on, where what is left of a character that is cut there is unknown
abbrev pub behind : Row → ℕ → Row
behind row to = replicate (later_columns (drop to row)) None ++ drop (to + later_columns (drop to row)) row

pub overwritten-is : (row : Row) (column to : ℕ) (cells : Row) → column + length cells ≡ to → overwritten column cells row ≡ front row column ++ (cells ++ behind row to)
overwritten-is row column to cells e = rw (sym e) (sym (append_assoc (take (first_column row column) row) (replicate (column - first_column row column) None) (cells ++ behind row (column + length cells))))

pub cut-made : (row r1 r2 : Row) (from to begin end : ℕ) → from < length row → from < to → to ≤ length row
    → begin ≡ first_column row from → end ≡ to + later_columns (drop to row) → end ≤ length row
    → r1 ≡ take begin row ++ (replicate (from - begin) None ++ drop from row)
    → r2 ≡ take to r1 ++ (replicate (end - to) None ++ drop end r1)
    → r2 ≡ overwritten from (take (to - from) (drop from row)) row
cut-made row r1 r2 from to begin end lt order le b e within p q =
    let M = take (to - from) (drop from row) in
    let L = take (end - to) (drop to row) in
    let D = drop end row in
    let F = front row from in
    let f = length-front row from (omega arith) in
    let m : length M ≡ to - from = part-length from to row (omega arith) le in
    let l : length L ≡ end - to = part-length to end row (omega arith) within in
    let n : length (F ++ M) ≡ to = omega (arith, length-append F M) in
    let some : end - to ≡ later_columns (drop to row) = omega arith in
    let made : r1 ≡ (F ++ M) ++ (L ++ D) =
    p ∙ ap (λ k. take k row ++ (replicate (from - k) None ++ drop from row)) b
    ∙ sym (append_assoc (take (first_column row from) row) (replicate (from - first_column row from) None) (drop from row))
    ∙ ap (λ xs. F ++ xs) (drop_split row from to (omega arith) ∙ ap (λ xs. M ++ xs) (drop_split row to end (omega arith)))
    ∙ sym (append_assoc F M (L ++ D)) in
    q ∙ ap (λ r. take to r ++ (replicate (end - to) None ++ drop end r)) made
    ∙ filled-seam (F ++ M) L (replicate (end - to) None) D to end n (omega arith)
    ∙ append_assoc F M (replicate (end - to) None ++ D)
    ∙ ap (λ k. F ++ (M ++ (replicate k None ++ D))) some
    ∙ ap (λ k. F ++ (M ++ (replicate (later_columns (drop to row)) None ++ drop k row))) e
    ∙ sym (overwritten-is row from to M (omega arith))

-- a row with other cells in place of those that were put into it
refilled : (row r M N : Row) (column to : ℕ) → column ≤ length row → r ≡ overwritten column M row → column + length M ≡ to → column + length N ≡ to
    → take column r ++ (N ++ drop to r) ≡ overwritten column N row
refilled row r M N column to le p e n =
    ap (λ r. take column r ++ (N ++ drop to r)) (p ∙ overwritten-is row column to M e)
    ∙ filled-seam (front row column) M N (behind row to) column to (length-front row column le) e
    ∙ sym (overwritten-is row column to N n)

-- copies of a cell in place of the cells that were cut
pub refilled-same : (row r : Row) (column to : ℕ) (v : Option Cell) → column ≤ to → to ≤ length row → r ≡ overwritten column (take (to - column) (drop column row)) row
    → take column r ++ (replicate (to - column) v ++ drop to r) ≡ overwritten column (replicate (to - column) v) row
refilled-same row r column to v order within p =
    refilled row r (take (to - column) (drop column row)) (replicate (to - column) v) column to (omega arith) p (omega (arith, order, part-length column to row order within)) (omega (arith, order, length-replicate (to - column) v))

-- a first value and others in place of the cells that were cut
pub refilled-first : (row r : Row) (column to : ℕ) (x v : Option Cell) → column < to → to ≤ length row → r ≡ overwritten column (take (to - column) (drop column row)) row
    → take (column + 1) (set r column x) ++ (replicate (to - (column + 1)) v ++ drop to (set r column x)) ≡ overwritten column (x ∷ replicate (to - (column + 1)) v) row
refilled-first row r column to x v lt within p =
    let M = take (to - column) (drop column row) in
    let e : column + length M ≡ to = omega (arith, part-length column to row (omega arith) within) in
    let k = to - (column + 1) in
    let long = ap length (p ∙ overwritten-is row column to M e) in
    let inside : column < length r = omega (arith, long, length-append (front row column) (M ++ behind row to), length-append M (behind row to), length-front row column (omega arith)) in
    let n : column + length (x ∷ replicate (to - (column + 1)) v) ≡ to = omega (arith, length-replicate (to - (column + 1)) v) in
    ap (λ b. take (column + 1) (set r column x) ++ (replicate k v ++ b)) (drop-set-lt to r column x lt)
    ∙ written r column x _ _ inside (refilled row r M (x ∷ replicate k v) column to (omega arith) p e n)

pub map-replicate : {X Y : Type 0} (f : X → Y) (n : ℕ) (x : X) → map f (replicate n x) ≡ replicate n (f x)
map-replicate f zero x = refl
map-replicate f (suc n) x = ap (λ ys. f x ∷ ys) (map-replicate f n x)

pub length-overwritten : (row cells : Row) (column to : ℕ) → column + length cells ≡ to → to + later_columns (drop to row) ≤ length row → length (overwritten column cells row) ≡ length row
length-overwritten row cells column to e le =
    let f = length-front row column (omega arith) in
    let left = later_columns (drop to row) in
    ap length (overwritten-is row column to cells e)
    ∙ length-append (front row column) (cells ++ behind row to)
    ∙ omega (arith, length-append cells (behind row to), length-append (replicate left None) (drop (to + left) row), length-replicate {A = Option Cell} left None, length-drop (to + later_columns (drop to row)) row)

-- a glyph's cells keep a row's length
pub length-glyph : (n : ℕ) (g : Glyph) (face : Attributes) → 1 ≤ n → length (map Some (glyph_cells n g face)) ≡ n
length-glyph n g face some = length-map (glyph_cells n g face) Some ∙ glyph_length n g face some

pub length-put : (row : Row) (column n : ℕ) (g : Glyph) (face : Attributes) → 1 ≤ n → column + n ≤ length row → length (overwritten column (map Some (glyph_cells n g face)) row) ≡ length row
length-put row column n g face some room =
    let e : column + length (map Some (glyph_cells n g face)) ≡ column + n = ap (λ k. column + k) (length-glyph n g face some) in
    length-overwritten row (map Some (glyph_cells n g face)) column (column + n) e (omega (arith, prefix_len-le-length is_later (drop (column + n) row), length-drop (column + n) row))
