-- Cells in which each glyph stands whole, one behind the other, glyphs that have their columns, and the columns of elements.
use Rattle.std.proofs.Common.{rules, tests, ◌≡◌, ℕ, zero, suc, ◌+◌, ◌-◌, ◌<◌, ◌≤◌, Bool, true, false, IsTrue, List, [], ◌∷◌, ◌++◌, replicate, Some, refl, sym, ap, arith, append_assoc, length, take, drop, set, get_or, ap₂, ◌∙◌}
use Rattle.std.proofs.lemmas.Bool.Decides.{nat_tests}
use Rattle.std.proofs.lemmas.List.{get_or-drop, get_or-replicate, length-drop, length-replicate, length-take-le, set_at, take-append-drop, take_more}
use Rattle.unicode_width.specs.Width.{char_width}
use Rattle.rd_base.proofs.Lists.{total-append}
use Rattle.rd_base.specs.Cells.{single}
use Rattle.rd_base.specs.Chars.{is_scalar}
use Rattle.rd_base.specs.Elements.{width_at_most, columns_at_most}
use Rattle.rd_base.specs.Faces.{Attributes}
use Rattle.rd_base.specs.Glyphs.{IsMeasured, IsGood, IsRowAfter, is_space, blanks, glyph_cells, look_cells}
use Rattle.rd_base.specs.declared.cell.Cell.{Cell}
use Rattle.rd_base.specs.declared.cell.Cell.TheVariants.{Blank, First, Rest}
use Rattle.rd_base.specs.declared.cell.Glyph.{Glyph}
use Rattle.rd_base.specs.declared.element.Element.{Element}
use Rattle.rd_base.specs.declared.element.Look.{Look}
use Rattle.rd_base.specs.declared.element.Look.TheVariants as look

-- ---- rows

-- what holds of no cells, and of a row with one cell more where it holds of the cells behind that one, holds of every row
pub by-cells : (P : ℕ → List Cell → Type 0) → P 0 [] → ((f : Attributes) (cells : List Cell) → P 0 cells → P 0 (Blank f ∷ cells))
    → ((g : Glyph) (f : Attributes) (cells : List Cell) → IsGood g → IsRowAfter (g.width - 1) cells → P (g.width - 1) cells → P 0 (First g f ∷ cells))
    → ((due : ℕ) (cells : List Cell) → P due cells → P (suc due) (Rest ∷ cells)) → (due : ℕ) (cells : List Cell) → IsRowAfter due cells → P due cells
by-cells P none blank first rest zero [] h = none
by-cells P none blank first rest zero (Blank f ∷ cells) h = blank f cells (by-cells P none blank first rest 0 cells h)
by-cells P none blank first rest zero (First g f ∷ cells) h = first g f cells h.0 h.1 (by-cells P none blank first rest (g.width - 1) cells h.1)
by-cells P none blank first rest zero (Rest ∷ cells) h = absurd h
by-cells P none blank first rest (suc due) [] h = absurd h
by-cells P none blank first rest (suc due) (Blank f ∷ cells) h = absurd h
by-cells P none blank first rest (suc due) (First g f ∷ cells) h = absurd h
by-cells P none blank first rest (suc due) (Rest ∷ cells) h = rest due cells (by-cells P none blank first rest due cells h)

pub behind-whole : (due : ℕ) (left right : List Cell) → IsRowAfter due left → IsRowAfter 0 right → IsRowAfter due (left ++ right)
behind-whole due left right a b =
    by-cells (λ due left. IsRowAfter due (left ++ right)) b (λ f cells so. so) (λ g f cells good row so. (good, so)) (λ due cells so. so) due left a

pub blanks-whole : (n : ℕ) (face : Attributes) → IsRowAfter 0 (blanks n face)
blanks-whole zero face = tt
blanks-whole (suc n) face = blanks-whole n face

pub rests-whole : (n : ℕ) → IsRowAfter n (replicate n Rest)
rests-whole zero = tt
rests-whole (suc n) = rests-whole n

glyph-by : (space : Bool) (columns : ℕ) (g : Glyph) (face : Attributes) → is_space g ≡ space → IsMeasured g → columns ≡ g.width → IsRowAfter 0 (glyph_cells columns g face)
glyph-by true columns g face h measured same = rw h (blanks-whole columns face)
glyph-by false columns g face h measured same =
    rw (h, same) (record { measured = measured; seen = h }, rests-whole (g.width - 1))

-- the cells of a glyph in its own columns
pub glyph-whole : (columns : ℕ) (g : Glyph) (face : Attributes) → IsMeasured g → columns ≡ g.width → IsRowAfter 0 (glyph_cells columns g face)
glyph-whole columns g face measured same = glyph-by (is_space g) columns g face refl measured same

-- a glyph has as many cells as columns
pub glyph_length : (columns : ℕ) (g : Glyph) (face : Attributes) → 1 ≤ columns → length (glyph_cells columns g face) ≡ columns
glyph_length columns g face some =
    let blank = length-replicate columns (Blank face) in
    let rests = length-replicate (columns - 1) Rest in
    grind arith

-- a look has as many cells as columns
pub look_length : (columns : ℕ) (l : Look) (face : Attributes) → 1 ≤ columns → length (look_cells columns l face) ≡ columns
look_length columns (look.Glyph g) face some = glyph_length columns g face some
look_length columns other face some = length-replicate columns (Blank face)

-- ---- glyphs

-- a character without marks in its own columns
pub single-measured : (base width : ℕ) → IsTrue (is_scalar base) → char_width false base ≡ Some width → 1 ≤ width → width ≤ 3 → IsMeasured (single base width)
single-measured base width scalar columns some few = record {
  scalar = scalar;
  columns = columns;
  some = some;
  few = few;
  places = refl;
  count = omega arith;
  marks = λ k p. absurd (omega arith);
  rest = λ k p q. get_or-replicate 6 k 0 0 q;
}

one-column : (base : ℕ) → 32 ≤ base → base < 127 → char_width false base ≡ Some 1
unfolding char_width
one-column base low high = grind (arith, nat_tests)

-- a printable character of ASCII
pub printable-measured : (base : ℕ) → 32 ≤ base → base < 127 → IsMeasured (single base 1)
printable-measured base low high =
    let scalar : is_scalar base ≡ true = grind (arith, nat_tests) in
    single-measured base 1 (search (rules, tests)) (one-column base low high) (omega arith) (omega arith)

-- a list of so many numbers, each of which is 0, is so many zeros
pub zeros : (n : ℕ) (xs : List ℕ) → length xs ≡ n → ((k : ℕ) → k < n → get_or xs k 0 ≡ 0) → xs ≡ replicate n 0
zeros zero [] e all = refl
zeros zero (x ∷ xs) e all = absurd (omega (arith, e))
zeros (suc n) [] e all = absurd (omega (arith, e))
zeros (suc n) (x ∷ xs) e all = ap₂ (λ y ys. y ∷ ys) (all 0 (omega arith)) (zeros n xs (omega (arith, e)) (λ k lt. all (suc k) (omega (arith, lt))))

-- the marks of a measured glyph behind those that count are zeros
pub spare-marks : (g : Glyph) → IsMeasured g → drop g.count g.marks ≡ replicate (6 - g.count) 0
spare-marks g h =
    let size : length (drop g.count g.marks) ≡ 6 - g.count = omega (arith, length-drop g.count g.marks, h.places) in
    zeros (6 - g.count) (drop g.count g.marks) size (λ k lt. get_or-drop g.count g.marks k 0 ∙ h.rest (g.count + k) (omega arith) (omega (arith, lt, h.count)))

-- a glyph with the first of its marks
abbrev pub upto : Glyph → ℕ → Glyph
upto g k = record { base = g.base; marks = take k g.marks ++ replicate (6 - k) 0; count = k; width = g.width }

-- the first marks of a glyph, with the next one written behind them
pub more-marks : (marks : List ℕ) (k code : ℕ) → length marks ≡ 6 → k < 6 → get_or marks k 0 ≡ code
    → set (take k marks ++ replicate (6 - k) 0) k code ≡ take (suc k) marks ++ replicate (6 - suc k) 0
more-marks marks k code six lt e =
    let one : 6 - k ≡ suc (6 - suc k) = omega arith in
    let n : length (take k marks) ≡ k = length-take-le k marks (omega (arith, six)) in
    let next : k + 1 ≡ suc k = omega arith in
    ap (λ j. set (take k marks ++ replicate j 0) k code) one
    ∙ set_at (take k marks) 0 (replicate (6 - suc k) 0) code k n
    ∙ sym (append_assoc (take k marks) (code ∷ []) (replicate (6 - suc k) 0))
    ∙ ap (λ xs. xs ++ replicate (6 - suc k) 0) (ap (λ c. take k marks ++ c ∷ []) (sym e) ∙ sym (take_more marks k 0 (omega (arith, six))) ∙ ap (λ j. take j marks) next)

-- a glyph with all its marks
pub all-marks : (g : Glyph) → IsMeasured g → upto g g.count ≡ g
all-marks g h =
    let marks : take g.count g.marks ++ replicate (6 - g.count) 0 ≡ g.marks = ap (λ xs. take g.count g.marks ++ xs) (sym (spare-marks g h)) ∙ take-append-drop g.count g.marks in
    ap (λ xs. let x : Glyph = record { base = g.base; marks = xs; count = g.count; width = g.width } in x) marks

-- ---- elements

pub columns-append : (xs ys : List Element) → columns_at_most (xs ++ ys) ≡ columns_at_most xs + columns_at_most ys
columns-append = total-append (λ e. width_at_most e.extent)
