-- Rows of one width.
use Rattle.std.proofs.Common.{◌≡◌, ℕ, ◌+◌, ◌<◌, ◌≤◌, nat_lt, Bool, true, false, if◌then◌else◌, Option, None, Some, option_and_then, option_map, unwrap_or, Result, List, [], ◌∷◌, ◌++◌, length, refl, sym, ap, ◌∙◌, arith, length-append}
use Rattle.std.proofs.lemmas.Bool.Decides.{nat_tests}
use Rattle.std.proofs.lemmas.List.Elements.{All-nil, All-cons, All-push}
use Rattle.std.proofs.lemmas.Option.{none-some}
use Rattle.rd_base.proofs.Choices.{kept-some}
use Rattle.rd_base.specs.declared.cell.Cell.{Cell}
use Rattle.rd_term.specs.Pictures.{Picture}
use Rattle.rd_audit.specs.Cuts.{stripped}
use Rattle.rd_audit.specs.Dumps.{picture_from, ended_by, after_row}
use Rattle.rd_audit.specs.Results.{IsShape}
use Rattle.rd_audit.specs.Rows.{row_key, is_as_wide, next_row, row_cells, cursor_place}

if_some : {T : Type 0} (b : Bool) (o : Option T) (x : T) → (if b then o else None) ≡ Some x → (b ≡ true) × (o ≡ Some x)
if_some true o x e = (refl, e)
if_some false o x e = absurd (none-some x e)

push-by : (rows : List (List Cell)) (cells : List Cell) → IsShape rows → length rows < 200 → is_as_wide rows cells ≡ true → IsShape (rows ++ cells ∷ [])
push-by [] cells shape few wide =
    let least : 12 ≤ length cells = grind (arith, nat_tests) in
    let most : length cells ≤ 400 = grind (arith, nat_tests) in
    record { each = All-cons (λ r. length r ≡ length cells) cells [] refl (All-nil (λ r. length r ≡ length cells)); some = λ _. least; wide = most; tall = omega arith }
push-by (row ∷ rows) cells shape few wide =
    let same : length cells ≡ length row = grind (arith, nat_tests) in
    record {
      each = All-push (λ r. length r ≡ length row) (row ∷ rows) cells shape.each same;
      some = λ _. shape.some (omega arith);
      wide = shape.wide;
      tall = omega (arith, few, length-append (row ∷ rows) (cells ∷ []));
    }

-- rows with the next one behind them
pub push-row : (rows : List (List Cell)) (behind : List ℕ) (cells : List Cell) → IsShape rows → next_row rows behind ≡ Some cells → IsShape (rows ++ cells ∷ [])
push-row rows behind cells shape e =
    let h = if_some (nat_lt (length rows) 200) (option_and_then (λ x. if is_as_wide rows x then Some x else None) (row_cells (length rows) behind)) cells e in
    push-by rows cells shape (let small = h.0 in grind (arith, nat_tests)) (kept-some (is_as_wide rows) (row_cells (length rows) behind) cells h.1)

-- the next line of a group says the next row
pub picture-on : (first : ℕ) (rows next : List (List Cell)) (cells : List Cell) (lines more : List (List ℕ)) (line behind : List ℕ) (whole : Result Picture ℕ) → lines ≡ line ∷ more
    → Some behind ≡ stripped row_key line → next_row rows behind ≡ Some cells → next ≡ rows ++ cells ∷ [] → picture_from (first + length rows) rows lines ≡ whole
    → picture_from (first + length next) next more ≡ whole
picture-on first rows next cells lines more line behind whole split row found push inv =
    let size : first + length (rows ++ cells ∷ []) ≡ first + length rows + 1 = omega (arith, length-append rows (cells ∷ [])) in
    let n = first + length rows in
    let rest = λ (x : List Cell). picture_from (n + 1) (rows ++ x ∷ []) more in
    ap (λ r. picture_from (first + length r) r more) push
    ∙ ap (λ k. picture_from k (rows ++ cells ∷ []) more) size
    ∙ sym (ap (picture_from n rows) split
    ∙ ap (λ o. unwrap_or (option_map (λ b. after_row n rest (next_row rows b)) o) (ended_by n rows (cursor_place rows line))) (sym row)
    ∙ ap (after_row n rest) found)
    ∙ inv
