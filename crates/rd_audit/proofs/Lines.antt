-- The lines of a dump.
use Rattle.std.proofs.Common.{◌≡◌, ℕ, ◌+◌, true, Option, None, Some, decimal, codes, List, [], ◌∷◌, ◌++◌, map, refl, sym, ap, ◌∙◌, append_assoc}
use Rattle.std.specs.Prelude.{All}
use Rattle.std.specs.List.{AllByRecursion, concat}
use Rattle.std.proofs.lemmas.List.Elements.{All-head, All-tail}
use Rattle.rd_base.specs.Glyphs.{IsRowAfter}
use Rattle.rd_base.specs.declared.cell.Cell.{Cell}
use Rattle.rd_io.specs.Lines.{lines_of}
use Rattle.rd_term.specs.Pictures.{Picture}
use Rattle.rd_dump.specs.Dumps.{place_text, labelled, window_numbers, window_line, windows_text, cells_text, runs_of_row, row_line, rows_text, cursor_line}
use Rattle.rd_dump.specs.declared.dump.WindowFacts.{WindowFacts}
use Rattle.rd_audit.proofs.Covering.{runs-lack}
use Rattle.rd_audit.proofs.Faces.{piece-lacks}
use Rattle.rd_audit.proofs.Lacking.{AllLack, lacks, lacks-append, lacks-decimal, lines-seam}
use Rattle.rd_audit.proofs.Spelling.{text-lacks}

-- bytes that are one line and its newline
pub record IsLine (bytes line : List ℕ) : Type 0 where
  pub whole : bytes ≡ line ++ 10 ∷ []
  pub unbroken : lacks 10 line ≡ true

pub line-behind : (front bytes line : List ℕ) → lacks 10 front ≡ true → IsLine bytes line → IsLine (front ++ bytes) (front ++ line)
line-behind front bytes line p h = record {
  whole = ap (λ l. front ++ l) h.whole ∙ sym (append_assoc front line (10 ∷ []));
  unbroken = lacks-append 10 front line p h.unbroken;
}

-- the first line of some bytes, and the lines behind it
pub line-first : (bytes line back : List ℕ) → IsLine bytes line → lines_of (bytes ++ back) ≡ line ∷ lines_of back
line-first bytes line back h =
    ap lines_of (ap (λ l. l ++ back) h.whole ∙ append_assoc line (10 ∷ []) back) ∙ lines-seam line back h.unbroken

-- ---- places

abbrev pub place_body : Option (ℕ × ℕ) → List ℕ
place_body None = codes "none"
place_body (Some place) = decimal place.0 ++ 44 ∷ decimal place.1

pub place-line : (place : Option (ℕ × ℕ)) → IsLine (place_text place) (place_body place)
place-line None = record { whole = refl; unbroken = refl }
place-line (Some place) = record {
  whole = sym (append_assoc (decimal place.0) (44 ∷ decimal place.1) (10 ∷ []));
  unbroken = lacks-append 10 (decimal place.0) (44 ∷ decimal place.1) (lacks-decimal 10 place.0 refl) (lacks-decimal 10 place.1 refl);
}

-- ---- windows

pieces-unbroken : (texts : List (List ℕ)) → AllLack 10 texts → lacks 10 (concat texts) ≡ true
pieces-unbroken [] h = refl
pieces-unbroken (text ∷ texts) h = lacks-append 10 text (concat texts) h.0 (pieces-unbroken texts h.1)

labelled-unbroken : (numbers : List (List ℕ × ℕ)) (texts : List (List ℕ)) → AllByRecursion (λ (number : List ℕ × ℕ). lacks 10 number.0 ≡ true) numbers → AllLack 10 texts
    → AllLack 10 (labelled numbers texts)
labelled-unbroken [] texts labels h = h
labelled-unbroken (number ∷ numbers) texts labels h = (labels.0, (lacks-decimal 10 number.1 refl, labelled-unbroken numbers texts labels.1 h))

-- a window's line up to its cursor
abbrev window_head : WindowFacts → List (List ℕ)
window_head w = labelled (window_numbers w) (codes " cursor " ∷ [])

abbrev pub window_body : WindowFacts → List ℕ
window_body w = concat (window_head w) ++ place_body w.cursor

pub window-line : (w : WindowFacts) → IsLine (window_line w) (window_body w)
window-line w =
    let labels : AllByRecursion (λ (number : List ℕ × ℕ). lacks 10 number.0 ≡ true) (window_numbers w) = (refl, (refl, (refl, (refl, (refl, (refl, (refl, (refl, tt)))))))) in
    let numbers = labelled-unbroken (window_numbers w) (codes " cursor " ∷ []) labels (refl, tt) in
    line-behind (concat (window_head w)) (place_text w.cursor) (place_body w.cursor) (pieces-unbroken (window_head w) numbers) (place-line w.cursor)

-- ---- rows and the cursor

abbrev pub row_front : ℕ → List ℕ
row_front row = concat (codes "row " ∷ decimal row ∷ codes " |" ∷ [])

abbrev pub row_body : ℕ → List Cell → List ℕ
row_body row cells = row_front row ++ (cells_text cells ++ 124 ∷ runs_of_row cells)

runs-unbroken : (cells : List Cell) → lacks 10 (124 ∷ runs_of_row cells) ≡ true
runs-unbroken cells = runs-lack 10 cells (λ first last face. piece-lacks 10 first last face refl) refl

pub row-line : (row : ℕ) (cells : List Cell) → IsRowAfter 0 cells → IsLine (row_line row cells) (row_body row cells)
row-line row cells h =
    let text = cells_text cells in
    let runs = runs_of_row cells in
    record {
      whole = ap (λ l. l ++ 10 ∷ []) (append_assoc (row_front row ++ text) (124 ∷ []) runs ∙ append_assoc (row_front row) text (124 ∷ runs));
      unbroken = lacks-append 10 (row_front row) (text ++ 124 ∷ runs) (pieces-unbroken (codes "row " ∷ decimal row ∷ codes " |" ∷ []) (refl, (lacks-decimal 10 row refl, (refl, tt))))
          (lacks-append 10 text (124 ∷ runs) (text-lacks cells h) (runs-unbroken cells));
    }

abbrev pub cursor_body : Picture → List ℕ
cursor_body picture = codes "cursor " ++ place_body (Some (picture.row, picture.column))

pub cursor-line : (picture : Picture) → IsLine (cursor_line (picture.row, picture.column)) (cursor_body picture)
cursor-line picture = line-behind (codes "cursor ") (place_text (Some (picture.row, picture.column))) (place_body (Some (picture.row, picture.column))) refl (place-line (Some (picture.row, picture.column)))

-- ---- all lines

abbrev pub row_bodies : ℕ → List (List Cell) → List (List ℕ)
row_bodies row [] = []
row_bodies row (cells ∷ rows) = row_body row cells ∷ row_bodies (row + 1) rows

abbrev pub AreWhole : List (List Cell) → Type 0
AreWhole rows = All (λ row. IsRowAfter 0 row) rows

pub rows-lines : (row : ℕ) (rows : List (List Cell)) (back : List ℕ) → AreWhole rows → lines_of (rows_text row rows ++ back) ≡ row_bodies row rows ++ lines_of back
rows-lines row [] back h = refl
rows-lines row (cells ∷ rows) back h =
    ap lines_of (append_assoc (row_line row cells) (rows_text (row + 1) rows) back)
    ∙ line-first (row_line row cells) (row_body row cells) (rows_text (row + 1) rows ++ back) (row-line row cells (All-head (λ r. IsRowAfter 0 r) cells rows h))
    ∙ ap (λ l. row_body row cells ∷ l) (rows-lines (row + 1) rows back (All-tail (λ r. IsRowAfter 0 r) cells rows h))

pub windows-lines : (windows : List WindowFacts) (back : List ℕ) → lines_of (windows_text windows ++ back) ≡ map window_body windows ++ lines_of back
windows-lines [] back = refl
windows-lines (w ∷ windows) back =
    ap lines_of (append_assoc (window_line w) (windows_text windows) back)
    ∙ line-first (window_line w) (window_body w) (windows_text windows ++ back) (window-line w)
    ∙ ap (λ l. window_body w ∷ l) (windows-lines windows back)
