-- The update law.
use Rattle.std.proofs.Common.{◌≡◌, if◌then◌else◌, ℕ, ◌+◌, ◌<◌, ◌≤◌, Bool, true, false, List, [], ◌++◌, length, get_or, map, replicate, Option, None, Some, refl, sym, ap, ◌∙◌, arith, All}
use Rattle.std.specs.List.{AllByRecursion}
use Rattle.std.proofs.lemmas.List.Elements.{recursion_from_All, All-from_recursion, All-map}
use Rattle.std.proofs.lemmas.List.{length-map, get_or-map, length-replicate}
use Rattle.rd_base.proofs.Choices.{either}
use Rattle.rd_base.proofs.Lists.{each-weaker}
use Rattle.rd_base.specs.Faces.{plain}
use Rattle.rd_base.specs.Glyphs.{IsRowAfter}
use Rattle.rd_base.specs.declared.cell.Cell.{Cell}
use Rattle.rd_term.specs.Pictures.{Picture, blank, blank_row, IsOfSize}
use Rattle.rd_base.specs.Cells.{IsColoured}
use Rattle.rd_term.specs.Terminals.{Tty, feed_bytes, known, feed_byte}
use Rattle.rd_term.specs.Shifts.{cleared}
use Rattle.rd_update.specs.Updates.{move, repaint, rows_bytes, rows_after, blank_like, start, opening, Update, update, is_done, differing}
use Rattle.rd_update.specs.Laws.{IsReady, IsUpdated}
use Rattle.rd_term.proofs.Cutting.{map-replicate}
use Rattle.rd_term.proofs.Encoded.{Rows, standing}
use Rattle.std.proofs.lemmas.List.Sums.{fold-append}
use Rattle.rd_update.proofs.Parts.{blank_like-is, cleared-all}
use Rattle.rd_update.proofs.Feeding.{repaint_fed}
use Rattle.rd_update.proofs.Sequences.{move_fed}
use Rattle.rd_update.proofs.Rows.{Stands, rows_fed}
use Rattle.rd_update.proofs.Sequences.{tty-same}
use Rattle.rd_update.proofs.Soundness.{after-all, length-after}

-- ---- the screen that counts as current

-- after a clear each cell is known to be blank
cleared-like : (w : ℕ) (rows : Rows) (like : List (List Cell)) → length rows ≡ length like
    → AllByRecursion (λ row. length row ≡ w) rows → AllByRecursion (λ row. length row ≡ w) like
    → map cleared rows ≡ known (blank_like like)
cleared-like w rows like n h k =
    cleared-all w rows h ∙ ap (λ j. replicate j (replicate w (Some blank))) n
    ∙ sym (ap known (blank_like-is like w k) ∙ map-replicate (map Some) (length like) (blank_row w) ∙ ap (replicate (length like)) (map-replicate Some w blank))

-- what stands before the first row's bytes: the current screen, by a plain pen
opened : (width height : ℕ) (current : Option Picture) (target : Picture) (t : Tty) → IsReady width height current target t → Stands t.region (known (start current target).rows) (feed_bytes t (opening current))
opened width height None target t h =
    let is = tty-same t.rows t.region t.cursor t.wait t.pen t.latest t.reading t.confused t.rows t.pen refl refl h.there.between h.there.sure in
    let blanks = cleared-like width t.rows target.rows (h.there.rows ∙ sym h.size.rows) (recursion_from_All (λ row. length row ≡ width) t.rows h.there.each) (recursion_from_All (λ row. length row ≡ width) target.rows h.size.each) in
    record {
      cursor = t.cursor;
      wait = t.wait;
      latest = None;
      is = ap (λ x. feed_bytes x repaint) is ∙ repaint_fed t.region t.rows t.cursor t.wait t.pen t.latest ∙ ap (λ r. standing t.region r t.cursor t.wait (Some plain) None) blanks;
    }
opened width height (Some screen) target t h = record {
  cursor = t.cursor;
  wait = t.wait;
  latest = t.latest;
  is = tty-same t.rows t.region t.cursor t.wait t.pen t.latest t.reading t.confused (known screen.rows) (Some plain) h.there.now.1 h.there.now.2 h.there.between h.there.sure;
}

start-size : (width height : ℕ) (current : Option Picture) (target : Picture) (t : Tty) → IsReady width height current target t → IsOfSize width height (start current target)
start-size width height None target t h =
    let n : length (blank_like target.rows) ≡ length target.rows = length-map target.rows (λ row. blank_row (length row)) in
    record {
      rows = n ∙ h.size.rows;
      each = All-map (λ row. length row ≡ width) (λ (row : List Cell). blank_row (length row)) target.rows (λ k d lt. length-replicate (length (get_or target.rows k d)) blank ∙ h.size.each k d lt);
      row = omega (arith, h.size.row);
      column = omega (arith, h.size.column);
    }
start-size width height (Some screen) target t h = h.there.now.0

-- ---- the end

-- the terminal after the rows, and then after the cursor's move where all rows were sent
ended : (region : Option (ℕ × ℕ)) → (width height : ℕ) (u : Update) (done : Bool) (target : Picture) (cursor : Option (ℕ × ℕ)) (wait : Bool) (latest : Option (ℕ × ℕ)) → u.done ≡ done → IsOfSize width height u.screen
    → target.row < length u.screen.rows → target.column < length (get_or u.screen.rows target.row []) → target.row < 65535 → target.column < 65535
    → IsUpdated width height u target (feed_bytes (standing region (known u.screen.rows) cursor wait (Some plain) latest) (if done then move target.row target.column else []))
ended region width height u false target cursor wait latest e size r c few narrow = record { sure = refl; between = refl; size = size; cells = refl; pen = refl; cursor = λ f. absurd (let g : true ≡ false = sym f ∙ e in cc) }
ended region width height u true target cursor wait latest e size r c few narrow =
    let n : target.row < length (known u.screen.rows) = omega (arith, length-map u.screen.rows (map Some)) in
    let at : get_or (known u.screen.rows) target.row [] ≡ map Some (get_or u.screen.rows target.row []) = get_or-map (map Some) u.screen.rows target.row [] [] r in
    let within : target.column < length (get_or (known u.screen.rows) target.row []) = rw at (omega (arith, length-map (get_or u.screen.rows target.row []) Some)) in
    let is = move_fed region (known u.screen.rows) cursor wait (Some plain) latest target.row target.column n within few narrow in
    rw is (record { sure = refl; between = refl; size = size; cells = refl; pen = refl; cursor = λ f. refl })

pub updated : (width height : ℕ) (current : Option Picture) (target : Picture) (limit : Option ℕ) (t : Tty) → IsReady width height current target t
    → IsUpdated width height (update current target limit) target (feed_bytes t (update current target limit).bytes)
updated width height current target limit t h =
    let old = start current target in
    let size = start-size width height current target t h in
    let begun = opened width height current target t h in
    let old_wide = recursion_from_All (λ row. length row ≡ width) old.rows size.each in
    let new_wide = recursion_from_All (λ row. length row ≡ width) target.rows h.size.each in
    let wholes = recursion_from_All (λ row. IsRowAfter 0 row) target.rows h.sound.whole.glyphs in
    let colours = each-weaker (All IsColoured) (AllByRecursion IsColoured) (recursion_from_All IsColoured) target.rows (recursion_from_All (λ row. All IsColoured row) target.rows h.sound.colours) in
    let same : length old.rows ≡ length target.rows = size.rows ∙ sym h.size.rows in
    let few : length {A = List (Option Cell)} [] + length old.rows ≤ 200 = omega (arith, h.tall, size.rows) in
    let sent = rows_fed t.region [] limit old.rows target.rows width begun.cursor begun.wait begun.latest few h.wide same old_wide new_wide wholes colours in
    let after = rows_after limit old.rows target.rows in
    let done = is_done limit (differing old.rows target.rows) in
    let last = if done then move target.row target.column else [] in
    let n : length after ≡ height = length-after limit old.rows target.rows same ∙ size.rows in
    let each = All-from_recursion (λ row. length row ≡ width) after (after-all (λ row. length row ≡ width) limit old.rows target.rows same old_wide new_wide) in
    let row : target.row < length after = omega (arith, h.size.row) in
    let column : target.column < length (get_or after target.row []) = omega (arith, h.size.column, each target.row [] row) in
    let wide : IsOfSize width height (update current target limit).screen = record { rows = n; each = each; row = either (λ k. k < height) done target.row old.row h.size.row size.row; column = either (λ k. k < width) done target.column old.column h.size.column size.column } in
    let is : feed_bytes t (update current target limit).bytes ≡ feed_bytes (standing t.region (known after) sent.cursor sent.wait (Some plain) sent.latest) last =
    fold-append feed_byte t (opening current ++ rows_bytes 0 limit old.rows target.rows) last
    ∙ ap (λ x. feed_bytes x last) (
    fold-append feed_byte t (opening current) (rows_bytes 0 limit old.rows target.rows)
    ∙ ap (λ x. feed_bytes x (rows_bytes 0 limit old.rows target.rows)) begun.is
    ∙ sent.is) in
    rw is (ended t.region width height (update current target limit) done target sent.cursor sent.wait sent.latest refl wide row column (omega (arith, h.size.row, h.tall)) (omega (arith, h.size.column, h.wide)))
