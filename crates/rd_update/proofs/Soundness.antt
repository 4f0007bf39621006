-- The new current screen of an update keeps what its screens have.
use Rattle.std.proofs.Common.{◌≡◌, ℕ, suc, ◌<◌, not, List, [], ◌∷◌, length, get_or, Option, None, Some, refl, ap, ◌∙◌, arith}
use Rattle.std.specs.List.{AllByRecursion}
use Rattle.std.specs.Prelude.{All, IfSome}
use Rattle.std.proofs.lemmas.List.{length-replicate}
use Rattle.std.proofs.lemmas.List.Elements.{recursion_from_All, All-from_recursion, All-map}
use Rattle.rd_base.proofs.Choices.{either}
use Rattle.rd_base.proofs.Colours.{blanks-coloured, plain-coloured}
use Rattle.rd_base.proofs.Rows.{blanks-whole}
use Rattle.rd_base.specs.Cells.{IsColoured}
use Rattle.rd_base.specs.Faces.{plain}
use Rattle.rd_base.specs.Glyphs.{IsRowAfter}
use Rattle.rd_base.specs.declared.cell.Cell.{Cell}
use Rattle.rd_term.specs.Pictures.{Picture, IsWellFormed, blank, blank_row, width_of}
use Rattle.rd_update.specs.Laws.{IsSound}
use Rattle.rd_update.specs.Plans.{HaveOneSize}
use Rattle.rd_update.specs.Updates.{update, start, blank_like, rows_after, allows, less_one, differs, differing, is_done}
use Rattle.rd_update.proofs.Parts.{start-length}

-- ---- what holds of both screens holds of the new one

-- what holds of no rows, of rows that are left as they were, and of a new row before rows of which it holds
after-by : (P : (olds news after : List (List Cell)) → Type 0) → P [] [] []
    → ((o n : List Cell) (os ns : List (List Cell)) → P (o ∷ os) (n ∷ ns) (o ∷ os))
    → ((o n : List Cell) (os ns after : List (List Cell)) → P os ns after → P (o ∷ os) (n ∷ ns) (n ∷ after))
    → (limit : Option ℕ) (olds news : List (List Cell)) → length olds ≡ length news → P olds news (rows_after limit olds news)
after-by P none stays comes limit [] [] same = none
after-by P none stays comes limit [] (n ∷ ns) same = absurd (cc)
after-by P none stays comes limit (o ∷ os) [] same = absurd (cc)
after-by P none stays comes limit (o ∷ os) (n ∷ ns) same =
    let next = λ (l : Option ℕ). comes o n os ns (rows_after l os ns) (after-by P none stays comes l os ns (omega arith)) in
    either (P (o ∷ os) (n ∷ ns)) (not (differs o n)) _ _ (next limit)
    (either (P (o ∷ os) (n ∷ ns)) (allows limit) _ _ (next (less_one limit)) (stays o n os ns))

pub after-all : (P : List Cell → Type 0) (limit : Option ℕ) (olds news : List (List Cell)) → length olds ≡ length news
    → AllByRecursion P olds → AllByRecursion P news → AllByRecursion P (rows_after limit olds news)
after-all P = after-by (λ olds news after. AllByRecursion P olds → AllByRecursion P news → AllByRecursion P after)
    (λ p q. tt) (λ o n os ns p q. p) (λ o n os ns after h p q. (q.0, h p.1 q.1))

-- ---- sizes

pub length-after : (limit : Option ℕ) (olds news : List (List Cell)) → length olds ≡ length news → length (rows_after limit olds news) ≡ length olds
length-after = after-by (λ olds news after. length after ≡ length olds) refl (λ o n os ns. refl) (λ o n os ns after h. ap suc h)

width-after : (limit : Option ℕ) (olds news : List (List Cell)) → length olds ≡ length news → width_of olds ≡ width_of news → width_of (rows_after limit olds news) ≡ width_of news
width-after = after-by (λ olds news after. width_of olds ≡ width_of news → width_of after ≡ width_of news)
    (λ e. refl) (λ o n os ns e. e) (λ o n os ns after h e. refl)

blank-width : (rows : List (List Cell)) → width_of (blank_like rows) ≡ width_of rows
blank-width [] = refl
blank-width (row ∷ rows) = length-replicate (length row) blank

start-width : (current : Option Picture) (target : Picture) → HaveOneSize current target → width_of (start current target).rows ≡ width_of target.rows
start-width None target h = blank-width target.rows
start-width (Some screen) target h = h.1

pub size-kept : (current : Option Picture) (target : Picture) (limit : Option ℕ) → HaveOneSize current target → HaveOneSize (Some (update current target limit).screen) target
size-kept current target limit h =
    let old = start current target in
    let n = start-length current target h in
    (length-after limit old.rows target.rows n ∙ n, width-after limit old.rows target.rows n (start-width current target h))

-- ---- soundness

-- a picture of the rows of a well-formed one and of blank ones, with its cursor on them
pub whole-again : (old new : Picture) → ((P : List Cell → Type 0) → ((n : ℕ) → P (blank_row n)) → All P old.rows → All P new.rows) → IsWellFormed old
    → new.row < length new.rows → new.column < width_of new.rows → IsWellFormed new
whole-again old new each whole row column =
    record { glyphs = each (λ cells. IsRowAfter 0 cells) (λ n. blanks-whole n plain) whole.glyphs; row = row; column = column }

-- a picture of the rows of a sound one and of blank ones, with its cursor on them
pub sound-again : (old new : Picture) → ((P : List Cell → Type 0) → ((n : ℕ) → P (blank_row n)) → All P old.rows → All P new.rows) → IsSound old
    → new.row < length new.rows → new.column < width_of new.rows → IsSound new
sound-again old new each sound row column = record {
  whole = whole-again old new each sound.whole row column;
  colours = each (λ cells. All IsColoured cells) (λ n. blanks-coloured n plain plain-coloured) sound.colours;
}

start-sound : (current : Option Picture) (target : Picture) → HaveOneSize current target → IfSome current (λ screen. IsSound screen) → IsSound target → IsSound (start current target)
start-sound None target h p t =
    let w = start-width None target h in
    let n = start-length None target h in
    sound-again target (start None target) (λ P one _. All-map P (λ (row : List Cell). blank_row (length row)) target.rows (λ k d lt. one (length (get_or target.rows k d)))) t
    (omega (arith, n, t.whole.row)) (omega (arith, w, t.whole.column))
start-sound (Some screen) target h p t = p

pub sound-kept : (current : Option Picture) (target : Picture) (limit : Option ℕ) → HaveOneSize current target → IfSome current (λ screen. IsSound screen) → IsSound target → IsSound (update current target limit).screen
sound-kept current target limit h p t =
    let old = start current target in
    let s = start-sound current target h p t in
    let size = size-kept current target limit h in
    let n = start-length current target h in
    let w = start-width current target h in
    let each : (P : List Cell → Type 0) → All P old.rows → All P target.rows → All P (rows_after limit old.rows target.rows) = λ P p q.
    All-from_recursion P _ (after-all P limit old.rows target.rows n (recursion_from_All P old.rows p) (recursion_from_All P target.rows q)) in
    let done = is_done limit (differing old.rows target.rows) in
    let row : (start current target).row < length target.rows = omega (arith, n, s.whole.row) in
    let column : (start current target).column < width_of target.rows = omega (arith, w, s.whole.column) in
    record {
      whole = record {
        glyphs = each (λ row. IsRowAfter 0 row) s.whole.glyphs t.whole.glyphs;
        row = rw size.0 (either (λ n. n < length target.rows) done target.row old.row t.whole.row row);
        column = rw size.1 (either (λ n. n < width_of target.rows) done target.column old.column t.whole.column column);
      };
      colours = each (λ row. All IsColoured row) s.colours t.colours;
    }
