use Rattle.std.proofs.Common.{◌≡◌, ℕ, ◌≤◌, All, false, List, [], ◌∷◌, replicate, Some, refl, sym, ap, subst, ◌∙◌, arith}
use Rattle.std.proofs.lemmas.Bool.Decides.{nat_tests}
use Rattle.std.proofs.lemmas.List.{get_or-replicate}
use Rattle.std.proofs.lemmas.List.Elements.{All-from_recursion, All-append, All-replicate}
use Rattle.unicode_width.specs.Width.{char_width}
use Rattle.rd_base.specs.Cells.{single, HasColours, IsColoured}
use Rattle.rd_base.specs.Faces.{plain}
use Rattle.rd_base.specs.Glyphs.{IsGood, IsRowAfter}
use Rattle.rd_base.specs.declared.cell.Cell.{Cell}
use Rattle.rd_base.specs.declared.cell.Glyph.{Glyph}
use Rattle.rd_base.specs.declared.cell.Cell.TheVariants.{First}
use Rattle.rd_term.specs.Pictures.{Picture, blank, blank_picture, with_cell}
use Rattle.rd_update.specs.Laws.{IsSound}
use Rattle.rd_tests_screens.proofs.update.two_letters.Goals as goal

narrow : (c : ℕ) → 33 ≤ c → c ≤ 126 → char_width false c ≡ Some 1
unfolding char_width
narrow c low high = grind (arith, nat_tests)

good : (c : ℕ) → 33 ≤ c → c ≤ 126 → IsGood (single c 1)
good c low high = record {
  measured = record {
    scalar = grind (arith, nat_tests);
    columns = narrow c low high;
    some = omega arith;
    few = omega arith;
    places = refl;
    count = omega arith;
    marks = λ k p. absurd (omega arith);
    rest = λ k p q. get_or-replicate 6 k 0 0 q;
  };
  seen = grind (arith, nat_tests);
}

coloured : HasColours plain
coloured = record { fg = omega arith; bg = omega arith }

abbrev letter : ℕ → List Cell
letter c = First (single c 1) plain ∷ replicate 11 blank

letter-coloured : (c : ℕ) → All IsColoured (letter c)
letter-coloured c =
    All-append IsColoured (First (single c 1) plain ∷ []) (replicate 11 blank) (All-from_recursion IsColoured (First (single c 1) plain ∷ []) (coloured, tt)) (All-replicate IsColoured 11 blank coloured)

abbrev two : Picture
two = record { rows = letter 97 ∷ letter 98 ∷ replicate 12 blank ∷ []; row = 0; column = 0 }

sound : IsSound two
sound = record {
  whole = record {
    glyphs = All-from_recursion (λ row. IsRowAfter 0 row) two.rows ((good 97 (omega arith) (omega arith), tt), ((good 98 (omega arith) (omega arith), tt), (tt, tt)));
    row = omega arith;
    column = omega arith;
  };
  colours = All-from_recursion (λ row. All IsColoured row) two.rows (letter-coloured 97, (letter-coloured 98, (All-replicate IsColoured 12 blank coloured, tt)));
}

abbrev with_first : ℕ → Picture → Glyph → Picture
with_first row p g = record p { rows = with_cell p.rows row 0 (First g plain) }

made : (none one both : Picture) (a b : Glyph) → none ≡ blank_picture 12 3 → a ≡ single 97 1 → b ≡ single 98 1
    → one ≡ with_first 0 none a → both ≡ with_first 1 one b → IsSound both
made none one both a b p q r e f =
    let first = e ∙ ap (λ s. with_first 0 s a) p ∙ ap (λ g. with_first 0 (blank_picture 12 3) g) q in
    let second = f ∙ ap (λ s. with_first 1 s b) first ∙ ap (λ g. with_first 1 (with_first 0 (blank_picture 12 3) (single 97 1)) g) r in
    subst (λ s. IsSound s) (sym second) sound

pub returns : goal.returns
returns c = made c.in_ok-screen.screen c.set.new.self c.set-2.new.self c.single.result c.single-2.result c.in_ok-screen.ensures c.single.ensures c.single-2.ensures c.set.ensures c.set-2.ensures
