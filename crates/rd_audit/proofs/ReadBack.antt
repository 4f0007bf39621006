-- A dump that was printed, read back.
use Rattle.std.proofs.Common.{◌≡◌, ◌==◌, ℕ, ◌+◌, ◌<◌, ◌≤◌, ◌&&◌, nat_lt, nat_le, Bool, true, false, if◌then◌else◌, Option, None, Some, option_and_then, Result, Ok, decimal, codes, List, [], ◌∷◌, ◌++◌, length, map, refl, sym, ap, ◌∙◌, arith, append_assoc, append-nil, length-append}
use Rattle.std.specs.Prelude.{All}
use Rattle.std.proofs.lemmas.Bool.Decides.{nat_tests, Decides-eqb}
use Rattle.std.proofs.lemmas.List.Elements.{All-head, All-tail}
use Rattle.std.specs.List.{onto_first}
use Rattle.std.specs.Option.{option_or}
use Rattle.rd_base.specs.Cells.{IsColoured, AreColoured}
use Rattle.rd_base.specs.Glyphs.{IsRowAfter}
use Rattle.rd_base.specs.declared.cell.Cell.{Cell}
use Rattle.rd_io.specs.Lines.{lines_of}
use Rattle.rd_term.specs.Pictures.{Picture, IsGrid, width_of}
use Rattle.rd_dump.specs.Dumps.{cells_text, runs_of_row, windows_text, rows_text, cursor_line, dump_text}
use Rattle.rd_dump.specs.declared.dump.WindowFacts.{WindowFacts}
use Rattle.rd_base.proofs.Choices.{either}
use Rattle.rd_audit.specs.Cuts.{stripped, cut_last}
use Rattle.rd_audit.specs.Dumps.{last_group, ended_by, after_row, picture_from, picture_of, dump_in}
use Rattle.rd_audit.specs.Printed.{HasDump, HasNoCursor}
use Rattle.rd_audit.specs.Rows.{is_row, is_cursor, row_text, row_cells, is_as_wide, next_row, place_in, cursor_place}
use Rattle.rd_audit.specs.FaceRuns.{runs_over}
use Rattle.rd_audit.specs.Texts.{text_cells}
use Rattle.rd_audit.proofs.Covering.{runs-lack, runs-read}
use Rattle.rd_audit.proofs.Cutting.{stripped-behind}
use Rattle.rd_audit.proofs.Decimals.{pair-read}
use Rattle.rd_audit.proofs.Faces.{piece-lacks}
use Rattle.rd_audit.proofs.Lacking.{last-seam}
use Rattle.rd_audit.proofs.Lines.{row_bodies, cursor_body, window_body, AreWhole, line-first, cursor-line, rows-lines, windows-lines}
use Rattle.rd_audit.proofs.Spelling.{text-read}

-- ---- the line of a row

-- the line of a row behind its key
abbrev behind_key : ℕ → List Cell → List ℕ
behind_key row cells = (decimal row ++ codes " |") ++ (cells_text cells ++ 124 ∷ runs_of_row cells)

row-text_read : (row : ℕ) (cells : List Cell) → row_text row (behind_key row cells) ≡ Some (cells_text cells ++ 124 ∷ runs_of_row cells)
row-text_read row cells =
    let rest = cells_text cells ++ 124 ∷ runs_of_row cells in
    ap (option_and_then (stripped (codes " |")))
    (sym (stripped-behind (decimal row) (behind_key row cells) (codes " |" ++ rest) (append_assoc (decimal row) (codes " |") rest)))

pub row-cells_read : (row : ℕ) (cells : List Cell) → IsRowAfter 0 cells → All IsColoured cells → length cells < 1000 → row_cells row (behind_key row cells) ≡ Some cells
row-cells_read row cells h colours small =
    let runs = runs_of_row cells in
    ap (λ o. option_and_then (λ (parts : List ℕ × List ℕ). option_and_then (runs_over parts.1) (text_cells parts.0)) (option_and_then (cut_last 124) o)) (row-text_read row cells)
    ∙ ap (option_and_then (λ (parts : List ℕ × List ℕ). option_and_then (runs_over parts.1) (text_cells parts.0)))
    (last-seam 124 (cells_text cells) runs (runs-lack 124 cells (λ first last face. piece-lacks 124 first last face refl) refl))
    ∙ ap (option_and_then (runs_over runs)) (text-read cells h)
    ∙ runs-read cells h colours small

-- ---- rows of one width

-- rows of a width may stand behind these
abbrev IsAsWide : ℕ → List (List Cell) → Type 0
IsAsWide width rows = (cells : List Cell) → length cells ≡ width → is_as_wide rows cells ≡ true

first-wide : (width : ℕ) → 12 ≤ width → width ≤ 400 → IsAsWide width []
first-wide width low high cells e = grind (arith, nat_tests)

more-wide : (width : ℕ) (rows : List (List Cell)) (cells : List Cell) → IsAsWide width rows → length cells ≡ width → IsAsWide width (rows ++ cells ∷ [])
more-wide width [] cells wide e other f = (Decides-eqb (length other) (length cells)).1 (f ∙ sym e)
more-wide width (row ∷ rows) cells wide e other f = wide other f

next-row_read : (width : ℕ) (rows : List (List Cell)) (cells : List Cell) → IsRowAfter 0 cells → All IsColoured cells → length rows < 200 → width ≤ 400 → length cells ≡ width → IsAsWide width rows
    → next_row rows (behind_key (length rows) cells) ≡ Some cells
next-row_read width rows cells h colours few narrow size wide =
    let room : nat_lt (length rows) 200 ≡ true = grind (arith, nat_tests) in
    ap (λ t. if t then option_and_then (λ x. if is_as_wide rows x then Some x else None) (row_cells (length rows) (behind_key (length rows) cells)) else None) room
    ∙ ap (option_and_then (λ x. if is_as_wide rows x then Some x else None)) (row-cells_read (length rows) cells h colours (omega (arith, size, narrow)))
    ∙ ap (λ t. if t then Some cells else None) (wide cells size)

-- ---- a group

-- the lines of rows say them, and those behind them what is said behind these rows
rows-read : (width : ℕ) (rows done : List (List Cell)) (number : ℕ) (last : List (List ℕ)) (whole : Result Picture ℕ) → AreWhole rows → AreColoured rows → IsGrid width rows
    → length done + length rows ≤ 200 → width ≤ 400 → IsAsWide width done → ((n : ℕ) → picture_from n (done ++ rows) last ≡ whole)
    → picture_from number done (row_bodies (length done) rows ++ last) ≡ whole
rows-read width [] done number last whole h colours grid few narrow wide end = ap (λ r. picture_from number r last) (sym (append-nil done)) ∙ end number
rows-read width (cells ∷ rows) done number last whole h colours grid few narrow wide end =
    let size : length cells ≡ width = All-head (λ r. length r ≡ width) cells rows grid in
    let next = done ++ cells ∷ [] in
    let lines = row_bodies (length done + 1) rows ++ last in
    let count : length done + 1 ≡ length next = omega (arith, length-append done (cells ∷ [])) in
    ap (after_row number (λ x. picture_from (number + 1) (done ++ x ∷ []) lines))
    (next-row_read width done cells (All-head (λ r. IsRowAfter 0 r) cells rows h) (All-head (λ r. All IsColoured r) cells rows colours) (omega (arith, few)) narrow size wide)
    ∙ ap (λ k. picture_from (number + 1) next (row_bodies k rows ++ last)) count
    ∙ rows-read width rows next (number + 1) last whole (All-tail (λ r. IsRowAfter 0 r) cells rows h) (All-tail (λ r. All IsColoured r) cells rows colours)
    (All-tail (λ r. length r ≡ width) cells rows grid) (omega (arith, few, length-append done (cells ∷ []))) narrow (more-wide width done cells wide size)
    (λ n. ap (λ r. picture_from n r last) (append_assoc done (cells ∷ []) rows) ∙ end n)

cursor-read : (picture : Picture) → HasDump picture → cursor_place picture.rows (cursor_body picture) ≡ Some (picture.row, picture.column)
cursor-read picture h =
    let rows = picture.rows in
    let row : picture.row < length rows = h.whole.row in
    let column : picture.column < width_of rows = h.whole.column in
    let two : nat_le 2 (length rows) ≡ true = let tall = h.tall in grind (arith, nat_tests) in
    let inside : (nat_lt picture.row (length rows) && nat_lt picture.column (width_of rows)) ≡ true = grind (arith, nat_tests) in
    ap (λ t. if t then option_and_then (λ (place : ℕ × ℕ). if nat_lt place.0 (length rows) && nat_lt place.1 (width_of rows) then Some place else None) (place_in (cursor_body picture)) else None) two
    ∙ ap (option_and_then (λ (place : ℕ × ℕ). if nat_lt place.0 (length rows) && nat_lt place.1 (width_of rows) then Some place else None))
    (pair-read 44 picture.row picture.column refl (omega (arith, row, h.screen.tall)) (omega (arith, column, h.screen.wide)))
    ∙ ap (λ t. if t then Some (picture.row, picture.column) else None) inside

-- the lines of a group
abbrev group_of : Picture → List (List ℕ) → List (List ℕ)
group_of picture more = row_bodies 0 picture.rows ++ cursor_body picture ∷ more

group-read : (picture : Picture) (number : ℕ) (more : List (List ℕ)) → HasDump picture → picture_from number [] (group_of picture more) ≡ Ok picture
group-read picture number more h =
    rows-read (width_of picture.rows) picture.rows [] number (cursor_body picture ∷ more) (Ok picture) h.whole.glyphs h.colours h.screen.size.each (omega (arith, h.screen.tall)) h.screen.wide
    (first-wide (width_of picture.rows) h.wide h.screen.wide)
    (λ n. ap (ended_by n picture.rows) (cursor-read picture h))

-- ---- the last group

-- where no line of a cursor follows, the last group stays
no-more : (lines : List (List ℕ)) (number : ℕ) (begun found : Option (ℕ × List (List ℕ))) → HasNoCursor lines → last_group number begun found lines ≡ found
no-more [] number begun found h = refl
no-more (line ∷ lines) number begun found h =
    let so = λ (b : Option (ℕ × List (List ℕ))). no-more lines (number + 1) b found (All-tail (λ l. is_cursor l ≡ false) line lines h) in
    rw (All-head (λ l. is_cursor l ≡ false) line lines h)
    (either (λ o. o ≡ found) (is_row line) _ _ (so (option_or begun (Some (number, line ∷ lines)))) (so None))

-- a group that has begun goes on to its cursor
group-on : (rows : List (List Cell)) (row number : ℕ) (picture : Picture) (group : ℕ × List (List ℕ)) (found : Option (ℕ × List (List ℕ))) (more : List (List ℕ)) → HasNoCursor more
    → last_group number (Some group) found (row_bodies row rows ++ cursor_body picture ∷ more) ≡ Some group
group-on [] row number picture group found more h = no-more more (number + 1) None (Some group) h
group-on (cells ∷ rows) row number picture group found more h = group-on rows (row + 1) (number + 1) picture group found more h

-- this group was found, at some number
abbrev Finds : List (List ℕ) → Option (ℕ × List (List ℕ)) → Type 0
Finds group found = (n : ℕ) × (found ≡ Some (n, group))

-- a group is found as the last one of these lines, whatever group was found before them
abbrev IsFound : List (List ℕ) → List (List ℕ) → Type 0
IsFound group lines = (number : ℕ) (found : Option (ℕ × List (List ℕ))) → Finds group (last_group number None found lines)

group-found : (picture : Picture) (rows : List (List Cell)) (more : List (List ℕ)) → 2 ≤ length rows → HasNoCursor more
    → IsFound (row_bodies 0 rows ++ cursor_body picture ∷ more) (row_bodies 0 rows ++ cursor_body picture ∷ more)
group-found picture [] more some h number found = absurd (omega (arith, some))
group-found picture (cells ∷ rows) more some h number found =
    (number, group-on rows 1 (number + 1) picture (number, row_bodies 0 (cells ∷ rows) ++ cursor_body picture ∷ more) found more h)

windows-passed : (windows : List WindowFacts) (group lines : List (List ℕ)) → IsFound group lines → IsFound group (map window_body windows ++ lines)
windows-passed [] group lines h number found = h number found
windows-passed (w ∷ windows) group lines h number found = windows-passed windows group lines h (number + 1) found

-- a group is found as the last one of these lines, whatever group was found before them, or has begun
abbrev IsFoundBehind : List (List ℕ) → List (List ℕ) → Type 0
IsFoundBehind group lines = (number : ℕ) (begun found : Option (ℕ × List (List ℕ))) → Finds group (last_group number begun found lines)

window-between : (windows : List WindowFacts) (group lines : List (List ℕ)) → 0 < length windows → IsFound group lines → IsFoundBehind group (map window_body windows ++ lines)
window-between [] group lines some h number begun found = absurd (omega (arith, some))
window-between (w ∷ windows) group lines some h number begun found = windows-passed windows group lines h (number + 1) found

before-passed : (before lines group : List (List ℕ)) → IsFoundBehind group lines → IsFoundBehind group (before ++ lines)
before-passed [] lines group h number begun found = h number begun found
before-passed (line ∷ before) lines group h number begun found =
    let passed = before-passed before lines group h (number + 1) in
    either (Finds group) (is_row line) _ _ (passed (option_or begun (Some (number, line ∷ before ++ lines))) found)
    (either (Finds group) (is_cursor line) _ _ (passed None (option_or begun found)) (passed None found))

-- ---- the lines of a report

dump-lines : (picture : Picture) (windows : List WindowFacts) (after : List ℕ) → AreWhole picture.rows
    → lines_of (dump_text picture windows ++ after) ≡ map window_body windows ++ group_of picture (lines_of after)
dump-lines picture windows after h =
    let rows = rows_text 0 picture.rows in
    ap lines_of (append_assoc (windows_text windows ++ rows) (cursor_line (picture.row, picture.column)) after ∙ append_assoc (windows_text windows) rows (cursor_line (picture.row, picture.column) ++ after))
    ∙ windows-lines windows (rows ++ (cursor_line (picture.row, picture.column) ++ after))
    ∙ ap (λ l. map window_body windows ++ l)
    (rows-lines 0 picture.rows (cursor_line (picture.row, picture.column) ++ after) h
    ∙ ap (λ l. row_bodies 0 picture.rows ++ l) (line-first (cursor_line (picture.row, picture.column)) (cursor_body picture) after (cursor-line picture)))

-- bytes that end with a newline are lines of their own
abbrev IsCutAt : List ℕ → Type 0
IsCutAt front = (first : List ℕ) × (more : List (List ℕ)) × ((rest : List ℕ) → lines_of (front ++ 10 ∷ rest) ≡ first ∷ (more ++ lines_of rest))

cut-at_by : (b : ℕ) (bs : List ℕ) (t : Bool) → IsCutAt bs
    → (first : List ℕ) × (more : List (List ℕ))
    × ((rest : List ℕ) → (if t then [] ∷ lines_of (bs ++ 10 ∷ rest) else onto_first b (lines_of (bs ++ 10 ∷ rest))) ≡ first ∷ (more ++ lines_of rest))
cut-at_by b bs true h = ([], h.0 ∷ h.1, λ rest. ap (λ l. [] ∷ l) (h.2 rest))
cut-at_by b bs false h = (b ∷ h.0, h.1, λ rest. ap (onto_first b) (h.2 rest))

cut-at : (front : List ℕ) → IsCutAt front
cut-at [] = ([], [], λ rest. refl)
cut-at (b ∷ bs) = cut-at_by b bs (b == 10) (cut-at bs)

-- ---- read back

pub read-first : (picture : Picture) (windows : List WindowFacts) (after : List ℕ) → HasDump picture → HasNoCursor (lines_of after) → dump_in (dump_text picture windows ++ after) ≡ Ok picture
read-first picture windows after h none =
    let group = group_of picture (lines_of after) in
    let found = windows-passed windows group group (group-found picture picture.rows (lines_of after) h.tall none) 1 None in
    ap (λ l. picture_of (last_group 1 None None l)) (dump-lines picture windows after h.whole.glyphs)
    ∙ ap picture_of found.1
    ∙ group-read picture found.0 (lines_of after) h

pub read-last : (picture : Picture) (windows : List WindowFacts) (before after : List ℕ) → HasDump picture → 0 < length windows → HasNoCursor (lines_of after)
    → dump_in (before ++ 10 ∷ (dump_text picture windows ++ after)) ≡ Ok picture
read-last picture windows before after h some none =
    let group = group_of picture (lines_of after) in
    let cuts = cut-at before in
    let lines = map window_body windows ++ group in
    let behind = window-between windows group group some (group-found picture picture.rows (lines_of after) h.tall none) in
    let found = before-passed (cuts.0 ∷ cuts.1) lines group behind 1 None None in
    ap (λ l. picture_of (last_group 1 None None l))
    (cuts.2 (dump_text picture windows ++ after) ∙ ap (λ l. cuts.0 ∷ (cuts.1 ++ l)) (dump-lines picture windows after h.whole.glyphs))
    ∙ ap picture_of found.1
    ∙ group-read picture found.0 (lines_of after) h
