-- Small cells with the same words are the same.
use Rattle.std.proofs.Common.{◌≡◌, ℕ, zero, suc, ◌+◌, ◌*◌, ◌%◌, ◌<◌, Bool, true, false, get_or, refl, ap, sym, ◌∙◌, arith}
use Rattle.std.proofs.Math.Nat.{add_comm, mul_comm}
use Rattle.std.proofs.lemmas.Nat.{same_from_place}
use Rattle.std.proofs.lemmas.List.{ext_get_or}
use Rattle.std.specs.Prelude.{slice_index}
use Rattle.std.specs.Int.{from_bool}
use Rattle.rd_base.specs.Faces.{Attributes}
use Rattle.rd_base.specs.Cells.{face_number, packed, glyph_number, words_of, HasColours, IsSmallGlyph, IsSmall}
use Rattle.rd_base.proofs.Equals.{attributes-same, glyphs-same}
use Rattle.rd_base.specs.declared.cell.Glyph.{Glyph}
use Rattle.rd_base.specs.declared.cell.Cell.{Cell}
use Rattle.rd_base.specs.declared.cell.Cell.TheVariants.{Blank, First, Rest}

from_bool-small : (b : Bool) → from_bool b < 2
from_bool-small true = omega arith
from_bool-small false = omega arith

from_bool-told : (a b : Bool) → from_bool a ≡ from_bool b → a ≡ b
from_bool-told true true e = refl
from_bool-told true false e = absurd (omega arith)
from_bool-told false true e = absurd (omega arith)
from_bool-told false false e = refl

-- a number's lowest digit and the rest, in some base
in_base : (n a b c d : ℕ) → a < n → c < n → a + n * b ≡ c + n * d → (a ≡ c) × (b ≡ d)
in_base n a b c d p q e =
    let turned : (x y : ℕ) → y * n + x ≡ x + n * y = λ x y. add_comm (y * n) x ∙ ap (λ m. x + m) (mul_comm y n) in
    let same = same_from_place b a d c n p q (turned a b ∙ e ∙ sym (turned c d)) in
    (same.1, same.0)

-- three small codes are told by their packed number
packed-told : (a b c d e f : ℕ) → packed a b c ≡ packed d e f
    → (a % 2097152 ≡ d % 2097152) × (b % 2097152 ≡ e % 2097152) × (c % 2097152 ≡ f % 2097152)
packed-told a b c d e f same =
    let first = in_base 2097152 (a % 2097152) _ (d % 2097152) _ (omega arith) (omega arith) same in
    let second = in_base 2097152 (b % 2097152) (c % 2097152) (e % 2097152) (f % 2097152) (omega arith) (omega arith) first.1 in
    (first.0, second.0, second.1)

face_number-small : (f : Attributes) → HasColours f → face_number f < 2048
face_number-small f h =
    let bold = from_bool-small f.bold in
    let underline = from_bool-small f.underline in
    let inverse = from_bool-small f.inverse in
    omega arith

face_number-told : (f g : Attributes) → HasColours f → HasColours g → face_number f ≡ face_number g → f ≡ g
face_number-told f g hf hg same =
    let fg = in_base 16 (f.fg % 16) _ (g.fg % 16) _ (omega arith) (omega arith) same in
    let bg = in_base 16 (f.bg % 16) _ (g.bg % 16) _ (omega arith) (omega arith) fg.1 in
    let bold = in_base 2 _ _ _ _ (from_bool-small f.bold) (from_bool-small g.bold) bg.1 in
    let flags = in_base 2 _ _ _ _ (from_bool-small f.underline) (from_bool-small g.underline) bold.1 in
    let fg_same : f.fg ≡ g.fg = omega arith in
    let bg_same : f.bg ≡ g.bg = omega arith in
    attributes-same f.fg f.bg g.fg g.bg f.bold f.underline f.inverse g.bold g.underline g.inverse fg_same bg_same
    (from_bool-told f.bold g.bold bold.0)
    (from_bool-told f.underline g.underline flags.0)
    (from_bool-told f.inverse g.inverse flags.1)

-- equal small codes modulo 2^21
code-told : (a b : ℕ) → a < 2097152 → b < 2097152 → a % 2097152 ≡ b % 2097152 → a ≡ b
code-told a b p q e = omega arith

-- what holds at 0 to 5 holds below 6
below_six : (P : ℕ → Type 0) → P 0 → P 1 → P 2 → P 3 → P 4 → P 5 → (k : ℕ) → k < 6 → P k
below_six P a b c d e f zero p = a
below_six P a b c d e f (suc zero) p = b
below_six P a b c d e f (suc (suc zero)) p = c
below_six P a b c d e f (suc (suc (suc zero))) p = d
below_six P a b c d e f (suc (suc (suc (suc zero)))) p = e
below_six P a b c d e f (suc (suc (suc (suc (suc zero))))) p = f
below_six P a b c d e f (suc (suc (suc (suc (suc (suc k)))))) p = absurd (omega arith)

glyph_number-told : (g h : Glyph) → IsSmallGlyph g → IsSmallGlyph h → glyph_number g ≡ glyph_number h
    → packed (slice_index g.marks 1) (slice_index g.marks 2) (slice_index g.marks 3) ≡ packed (slice_index h.marks 1) (slice_index h.marks 2) (slice_index h.marks 3)
    → packed (slice_index g.marks 4) (slice_index g.marks 5) 0 ≡ packed (slice_index h.marks 4) (slice_index h.marks 5) 0
    → g ≡ h
glyph_number-told g h sg sh first second third =
    let count = in_base 8 (g.count % 8) _ (h.count % 8) _ (omega arith) (omega arith) first in
    let width = in_base 4 (g.width % 4) _ (h.width % 4) _ (omega arith) (omega arith) count.1 in
    let low = packed-told g.base (get_or g.marks 0 0) 0 h.base (get_or h.marks 0 0) 0 width.1 in
    let next = packed-told (get_or g.marks 1 0) (get_or g.marks 2 0) (get_or g.marks 3 0) (get_or h.marks 1 0) (get_or h.marks 2 0) (get_or h.marks 3 0) second in
    let high = packed-told (get_or g.marks 4 0) (get_or g.marks 5 0) 0 (get_or h.marks 4 0) (get_or h.marks 5 0) 0 third in
    let small : (x : Glyph) → IsSmallGlyph x → (k : ℕ) → k < 6 → get_or x.marks k 0 < 2097152 = λ x s k p. s.marks k 0 (rw s.places p) in
    let at : (k : ℕ) → k < 6 → get_or g.marks k 0 % 2097152 ≡ get_or h.marks k 0 % 2097152 → get_or g.marks k 0 ≡ get_or h.marks k 0
    = λ k p e. code-told (get_or g.marks k 0) (get_or h.marks k 0) (small g sg k p) (small h sh k p) e in
    let Same : ℕ → Type 0 = λ k. get_or g.marks k 0 ≡ get_or h.marks k 0 in
    let each = below_six Same
    (at 0 (omega arith) low.1) (at 1 (omega arith) next.0) (at 2 (omega arith) next.1)
    (at 3 (omega arith) next.2) (at 4 (omega arith) high.0) (at 5 (omega arith) high.1) in
    let marks = ext_get_or 0 g.marks h.marks (sg.places ∙ sym sh.places) (λ i p. each i (rw (sym sg.places) p)) in
    let count_same : g.count ≡ h.count = omega arith in
    let width_same : g.width ≡ h.width = omega arith in
    glyphs-same g.base g.count g.width h.base h.count h.width g.marks h.marks
    (code-told g.base h.base sg.base sh.base low.0) marks count_same width_same

-- small cells with the same words are the same
pub words_of-told : (a b : Cell) → IsSmall a → IsSmall b → words_of a ≡ words_of b → a ≡ b
words_of-told Rest Rest sa sb e = refl
words_of-told Rest (Blank f) sa sb e = let first = ap (λ ws. get_or ws 0 0) e in absurd (omega arith)
words_of-told Rest (First g f) sa sb e = let first = ap (λ ws. get_or ws 0 0) e in absurd (omega arith)
words_of-told (Blank f) Rest sa sb e = let first = ap (λ ws. get_or ws 0 0) e in absurd (omega arith)
words_of-told (Blank f) (Blank f') sa sb e =
    let first = ap (λ ws. get_or ws 0 0) e in
    ap Blank (face_number-told f f' sa sb (omega arith))
words_of-told (Blank f) (First g f') sa sb e = let first = ap (λ ws. get_or ws 0 0) e in absurd (omega arith)
words_of-told (First g f) Rest sa sb e = let first = ap (λ ws. get_or ws 0 0) e in absurd (omega arith)
words_of-told (First g f) (Blank f') sa sb e = let first = ap (λ ws. get_or ws 0 0) e in absurd (omega arith)
words_of-told (First g f) (First g' f') sa sb e =
    let first = ap (λ ws. get_or ws 0 0) e in
    let digits = in_base 2048 (face_number f) (glyph_number g) (face_number f') (glyph_number g')
    (face_number-small f sa.1) (face_number-small f' sb.1) (omega arith) in
    let glyph = glyph_number-told g g' sa.0 sb.0 digits.1 (ap (λ ws. get_or ws 1 0) e) (ap (λ ws. get_or ws 2 0) e) in
    let face = face_number-told f f' sa.1 sb.1 digits.0 in
    cc
