-- The text of a row, read back.
use Rattle.std.proofs.Common.{◌≡◌, ◌==◌, ℕ, zero, suc, ◌+◌, ◌-◌, ◌<◌, ◌≤◌, nat_lt, true, false, if◌then◌else◌, Option, None, Some, option_and_then, option_map, List, [], ◌∷◌, ◌++◌, length, map, take, drop, get_or, replicate, refl, sym, ap, ap₂, ◌∙◌, arith, append_assoc, append-nil, length-take}
use Rattle.std.specs.Char.{encode_utf8}
use Rattle.std.specs.List.{AllByRecursion, flat_map}
use Rattle.std.specs.Str.{all_scalars, encode_utf8_all, chars}
use Rattle.std.proofs.lemmas.Bool.{cond-true}
use Rattle.std.proofs.lemmas.Bool.Decides.{nat_tests}
use Rattle.std.proofs.lemmas.Str.{chars-encodes, encodes-append, is_utf8-from_IsUtf8}
use Rattle.std.proofs.lemmas.List.{drop_more}
use Rattle.unicode_width.specs.Width.{char_width}
use Rattle.rd_base.proofs.Lists.{each-append}
use Rattle.rd_base.proofs.Rows.{all-marks, by-cells, more-marks, upto}
use Rattle.rd_base.specs.Cells.{single, with_mark}
use Rattle.rd_base.specs.Chars.{is_scalar, encoded, columns_of}
use Rattle.rd_base.specs.Faces.{plain}
use Rattle.rd_base.specs.Glyphs.{IsMeasured, IsGood, IsRowAfter, glyph_bytes}
use Rattle.rd_base.specs.declared.cell.Glyph.{Glyph}
use Rattle.rd_base.specs.declared.cell.Cell.{Cell}
use Rattle.rd_base.specs.declared.cell.Cell.TheVariants.{Blank, First, Rest}
use Rattle.rd_term.proofs.Measured.{space-columns, base-columns, mark-columns, no-control}
use Rattle.rd_dump.specs.Dumps.{cells_text}
use Rattle.rd_audit.specs.FaceRuns.{with_face}
use Rattle.rd_audit.specs.Texts.{cells_of, taken, cells_from, text_cells}
use Rattle.rd_audit.proofs.Lacking.{lacks, lacks-append}

-- the marks of a glyph that count
abbrev pub marks_of : Glyph → List ℕ
marks_of g = take g.count g.marks

-- the characters of cells
abbrev pub codes_of : List Cell → List ℕ
codes_of [] = []
codes_of (Blank f ∷ cells) = 32 ∷ codes_of cells
codes_of (First g f ∷ cells) = g.base ∷ (marks_of g ++ codes_of cells)
codes_of (Rest ∷ cells) = codes_of cells

-- cells in the plain face
abbrev pub plainly : List Cell → List Cell
plainly cells = map (with_face plain) cells

-- ---- characters and their bytes

-- a scalar value with columns
abbrev pub IsShown : ℕ → Type 0
IsShown code = (is_scalar code ≡ true) × ((width : ℕ) × (columns_of code ≡ Some width))

abbrev pub AreShown : List ℕ → Type 0
AreShown codes = AllByRecursion IsShown codes

encoded-all : (codes : List ℕ) → AreShown codes → flat_map encoded codes ≡ encode_utf8_all codes
encoded-all [] h = refl
encoded-all (code ∷ codes) h = ap₂ (λ x y. x ++ y) (cond-true (is_scalar code) (encode_utf8 code) [] h.0.0) (encoded-all codes h.1)

all-scalar : (codes : List ℕ) → AreShown codes → all_scalars codes ≡ true
all-scalar [] h = refl
all-scalar (code ∷ codes) h = let one = h.0.0 in let more = all-scalar codes h.1 in grind (arith, nat_tests)

newline-columns : columns_of 10 ≡ None
unfolding char_width
newline-columns = refl

-- the bytes of a character but a newline hold none
encode-lacks : (code : ℕ) → (code == 10) ≡ false → lacks 10 (encode_utf8 code) ≡ true
unfolding encode_utf8
encode-lacks code other = grind (arith, nat_tests)

encodes-lack : (codes : List ℕ) → AreShown codes → lacks 10 (encode_utf8_all codes) ≡ true
encodes-lack [] h = refl
encodes-lack (code ∷ codes) h =
    lacks-append 10 (encode_utf8 code) (encode_utf8_all codes) (encode-lacks code (no-control code h.0.1.0 10 newline-columns h.0.1.1)) (encodes-lack codes h.1)

-- ---- the characters of a row

-- characters of no column
abbrev pub AreMarks : List ℕ → Type 0
AreMarks marks = AllByRecursion (λ (mark : ℕ). (is_scalar mark ≡ true) × (columns_of mark ≡ Some 0)) marks

are-marks : (n : ℕ) (marks : List ℕ) → n ≤ length marks
    → ((k : ℕ) → k < n → (is_scalar (get_or marks k 0) ≡ true) × (columns_of (get_or marks k 0) ≡ Some 0)) → AreMarks (take n marks)
are-marks zero marks less all = tt
are-marks (suc n) [] less all = absurd (omega (arith, less))
are-marks (suc n) (mark ∷ marks) less all = (all 0 (omega arith), are-marks n marks (omega (arith, less)) (λ k lt. all (suc k) (omega (arith, lt))))

pub marks-are : (g : Glyph) → IsMeasured g → AreMarks (marks_of g)
marks-are g h = are-marks g.count g.marks (omega (arith, h.count, h.places)) (λ k lt. ((h.marks k lt).0, mark-columns g k h lt))

marks-shown : (marks : List ℕ) → AreMarks marks → AreShown marks
marks-shown [] h = tt
marks-shown (mark ∷ marks) h = ((h.0.0, (0, h.0.1)), marks-shown marks h.1)

pub row-shown : (due : ℕ) (cells : List Cell) → IsRowAfter due cells → AreShown (codes_of cells)
row-shown = by-cells (λ due cells. AreShown (codes_of cells)) tt (λ f cells so. ((refl, (1, space-columns)), so))
    (λ g f cells good row so. (
      (good.measured.scalar, (g.width, base-columns g good.measured)),
      each-append IsShown (marks_of g) (codes_of cells) (marks-shown (marks_of g) (marks-are g good.measured)) so,
    ))
    (λ due cells so. so)

-- the bytes of a row's text
text-of_glyph : (g : Glyph) → IsMeasured g → glyph_bytes g ≡ encode_utf8 g.base ++ encode_utf8_all (marks_of g)
text-of_glyph g h = ap₂ (λ x y. x ++ y) (cond-true (is_scalar g.base) (encode_utf8 g.base) [] h.scalar) (encoded-all (marks_of g) (marks-shown (marks_of g) (marks-are g h)))

pub text-is : (due : ℕ) (cells : List Cell) → IsRowAfter due cells → cells_text cells ≡ encode_utf8_all (codes_of cells)
unfolding encode_utf8
text-is = by-cells (λ due cells. cells_text cells ≡ encode_utf8_all (codes_of cells)) refl (λ f cells so. ap (λ l. 32 ∷ l) so)
    (λ g f cells good row so.
    ap₂ (λ x y. x ++ y) (text-of_glyph g good.measured) so
    ∙ append_assoc (encode_utf8 g.base) (encode_utf8_all (marks_of g)) (encode_utf8_all (codes_of cells))
    ∙ sym (ap (λ l. encode_utf8 g.base ++ l) (encodes-append (marks_of g) (codes_of cells))))
    (λ due cells so. so)

pub text-lacks : (cells : List Cell) → IsRowAfter 0 cells → lacks 10 (cells_text cells) ≡ true
text-lacks cells h = ap (lacks 10) (text-is 0 cells h) ∙ encodes-lack (codes_of cells) (row-shown 0 cells h)

-- ---- marks that are joined again

abbrev with_marks : Glyph → List ℕ → Glyph
with_marks g [] = g
with_marks g (mark ∷ marks) = with_marks (with_mark g mark) marks

marks-read : (front : List Cell) (codes marks : List ℕ) (g : Glyph) → AreMarks marks → g.count + length marks ≤ 6
    → cells_from front (Some g) (marks ++ codes) ≡ cells_from front (Some (with_marks g marks)) codes
marks-read front codes [] g h few = refl
marks-read front codes (mark ∷ marks) g h few =
    let room : nat_lt g.count 6 ≡ true = grind (arith, nat_tests) in
    ap (λ o. option_and_then (λ (next : List Cell × Glyph). cells_from next.0 (Some next.1) (marks ++ codes)) (taken front (Some g) mark o)) h.0.1
    ∙ ap (λ t. option_and_then (λ (next : List Cell × Glyph). cells_from next.0 (Some next.1) (marks ++ codes)) (option_map (λ x. (front, x)) (if t then Some (with_mark g mark) else None))) room
    ∙ marks-read front codes marks (with_mark g mark) h.1 (omega (arith, few))

joined-from : (g : Glyph) (n k all : ℕ) → length g.marks ≡ 6 → k + n ≡ all → all ≤ 6 → with_marks (upto g k) (take n (drop k g.marks)) ≡ upto g all
joined-from g zero k all six sum few = let same : k ≡ all = omega arith in ap (upto g) same
joined-from g (suc n) k all six sum few =
    let one : k + 1 ≡ suc k = omega arith in
    let marks = more-marks g.marks k (get_or g.marks k 0) six (omega arith) refl in
    ap (λ l. with_marks (upto g k) (take (suc n) l)) (drop_more g.marks k 0 (omega (arith, six)))
    ∙ (λ i. with_marks (record { base = g.base; marks = marks i; count = one i; width = g.width }) (take n (drop (one i) g.marks)))
    ∙ joined-from g n (suc k) all six (omega arith) few

pub marks-joined_glyph : (g : Glyph) → IsMeasured g → with_marks (single g.base g.width) (marks_of g) ≡ g
marks-joined_glyph g h = joined-from g g.count 0 g.count h.places (omega arith) h.count ∙ all-marks g h

-- ---- a row that is read again

rests : (due : ℕ) (cells : List Cell) → IsRowAfter due cells → replicate due Rest ++ drop due (plainly cells) ≡ plainly cells
rests = by-cells (λ due cells. replicate due Rest ++ drop due (plainly cells) ≡ plainly cells) refl (λ f cells so. refl) (λ g f cells good row so. refl)
    (λ due cells so. ap (λ l. Rest ∷ l) so)

glyph-cells : (g : Glyph) (cells : List Cell) → IsGood g → IsRowAfter (g.width - 1) cells
    → cells_of (Some g) ++ drop (g.width - 1) (plainly cells) ≡ First g plain ∷ plainly cells
glyph-cells g cells good h =
    ap (λ t. (if t then replicate g.width (Blank plain) else First g plain ∷ replicate (g.width - 1) Rest) ++ drop (g.width - 1) (plainly cells)) good.seen
    ∙ ap (λ l. First g plain ∷ l) (rests (g.width - 1) cells h)

first-taken : (front : List Cell) (held : Option Glyph) (g : Glyph) → IsMeasured g
    → taken front held g.base (columns_of g.base) ≡ Some (front ++ cells_of held, single g.base g.width)
first-taken front held g h =
    let width : g.width ≡ suc (g.width - 1) = omega (arith, h.some) in
    ap (taken front held g.base) (base-columns g h ∙ ap Some width) ∙ ap (λ w. Some (front ++ cells_of held, single g.base w)) (sym width)

pub row-read : (due : ℕ) (cells : List Cell) → IsRowAfter due cells → (front : List Cell) (held : Option Glyph)
    → cells_from front held (codes_of cells) ≡ Some (front ++ (cells_of held ++ drop due (plainly cells)))
row-read = by-cells
    (λ due cells. (front : List Cell) (held : Option Glyph) → cells_from front held (codes_of cells) ≡ Some (front ++ (cells_of held ++ drop due (plainly cells))))
    (λ front held. ap (λ l. Some (front ++ l)) (sym (append-nil (cells_of held))))
    (λ f cells so front held.
    ap (λ o. option_and_then (λ (next : List Cell × Glyph). cells_from next.0 (Some next.1) (codes_of cells)) (taken front held 32 o)) space-columns
    ∙ so (front ++ cells_of held) (Some (single 32 1))
    ∙ ap Some (append_assoc front (cells_of held) (Blank plain ∷ plainly cells)))
    (λ g f cells good row so front held.
    let few : 0 + length (marks_of g) ≤ 6 = omega (arith, length-take g.count g.marks, good.measured.count) in
    ap (option_and_then (λ (next : List Cell × Glyph). cells_from next.0 (Some next.1) (marks_of g ++ codes_of cells))) (first-taken front held g good.measured)
    ∙ marks-read (front ++ cells_of held) (codes_of cells) (marks_of g) (single g.base g.width) (marks-are g good.measured) few
    ∙ ap (λ x. cells_from (front ++ cells_of held) (Some x) (codes_of cells)) (marks-joined_glyph g good.measured)
    ∙ so (front ++ cells_of held) (Some g)
    ∙ ap (λ l. Some ((front ++ cells_of held) ++ l)) (glyph-cells g cells good row)
    ∙ ap Some (append_assoc front (cells_of held) (First g plain ∷ plainly cells)))
    (λ due cells so. so)

-- the text of a row says its cells, in the plain face
pub text-read : (cells : List Cell) → IsRowAfter 0 cells → text_cells (cells_text cells) ≡ Some (plainly cells)
text-read cells h =
    let codes = codes_of cells in
    let bytes = encode_utf8_all codes in
    let scalars : all_scalars codes ≡ true = all-scalar codes (row-shown 0 cells h) in
    ap text_cells (text-is 0 cells h)
    ∙ ap (λ t. if t then cells_from [] None (chars bytes) else None) (is_utf8-from_IsUtf8 bytes (codes, (scalars, refl)))
    ∙ ap (cells_from [] None) (chars-encodes codes scalars)
    ∙ row-read 0 cells h [] None
