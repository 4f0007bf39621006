-- The screen of a frame when all of it is painted.
use Rattle.std.proofs.Common.{◌≡◌, ℕ, ◌+◌, List, length, sym, ap, ◌∙◌}
use Rattle.std.proofs.lemmas.List.{length-replicate}
use Rattle.std.proofs.lemmas.List.Elements.{All-replicate}
use Rattle.std.specs.Prelude.{replicate}
use Rattle.rd_base.specs.declared.cell.Cell.{Cell}
use Rattle.rd_frame.specs.Paints.{with_echo}
use Rattle.rd_term.specs.Pictures.{Picture, blank, blank_row}
use Rattle.rd_tree.specs.Compositions.{HasSize}

-- the screen with the windows, the echo area and the cursor
pub finished : (first second third fourth : Picture) (echo : List Cell) (windows all : List (List Cell)) (row column : ℕ)
    → (let p : Picture = record first { rows = windows } in second ≡ p)
    → (let p : Picture = record second { rows = with_echo echo second.rows } in third ≡ p)
    → (let p : Picture = record third { row = row; column = column } in fourth ≡ p)
    → with_echo echo windows ≡ all
    → (let p : Picture = record { rows = all; row = row; column = column } in fourth ≡ p)
finished first second third fourth echo windows all row column a b c d =
    let rows : third.rows ≡ all = ap (λ (p : Picture). p.rows) b ∙ (ap (λ (p : Picture). with_echo echo p.rows) a ∙ d) in
    c ∙ ap (λ (xs : List (List Cell)). let p : Picture = record { rows = xs; row = row; column = column } in p) rows

-- the blank screen has the frame's size
pub blank-size : (columns rows width height : ℕ) → columns ≡ width → height + 1 ≡ rows → HasSize width (height + 1) (replicate rows (blank_row columns))
blank-size columns rows width height wide high =
    (length-replicate rows (blank_row columns) ∙ sym high, All-replicate (λ (row : List Cell). length row ≡ width) rows (blank_row columns) (length-replicate columns blank ∙ wide))
