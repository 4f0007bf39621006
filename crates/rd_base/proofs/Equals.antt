-- The tests of faces, glyphs and cells decide equality.
use Rattle.std.proofs.Common.{◌≡◌, ℕ, Bool, true, false, List, refl, ap}
use Rattle.std.specs.Bool.{Decides}
use Rattle.std.proofs.lemmas.Bool.{and_parts, and_from}
use Rattle.std.proofs.lemmas.Bool.Decides.{Decides-and, Decides-eqb, Decides-like}
use Rattle.std.proofs.lemmas.Slice.Eq.{bytes_eq-Decides}
use Rattle.rd_base.specs.Faces.{Attributes}
use Rattle.rd_base.specs.Equals.{same_flag, same_face, same_glyph, same_cell}
use Rattle.rd_base.specs.declared.cell.Glyph.{Glyph}
use Rattle.rd_base.specs.declared.cell.Cell.{Cell}
use Rattle.rd_base.specs.declared.cell.Cell.TheVariants.{Blank, First, Rest}

pub attributes-same : (a b c d : ℕ) (p q r s t u : Bool) → a ≡ c → b ≡ d → p ≡ s → q ≡ t → r ≡ u
    → let x : Attributes = record { fg = a; bg = b; bold = p; underline = q; inverse = r } in
    let y : Attributes = record { fg = c; bg = d; bold = s; underline = t; inverse = u } in x ≡ y
attributes-same a b c d p q r s t u e f g h i = cc

pub glyphs-same : (a b c d e f : ℕ) (xs ys : List ℕ) → a ≡ d → xs ≡ ys → b ≡ e → c ≡ f
    → let x : Glyph = record { base = a; marks = xs; count = b; width = c } in
    let y : Glyph = record { base = d; marks = ys; count = e; width = f } in x ≡ y
glyphs-same a b c d e f xs ys p q r s = cc

flag-decides : (a b : Bool) → Decides (same_flag a b) (a ≡ b)
flag-decides true true = (λ e. refl, λ e. refl)
flag-decides false false = (λ e. refl, λ e. refl)
flag-decides a b = (λ e. absurd (cc), λ e. absurd (cc))

pub face-decides : (f g : Attributes) → Decides (same_face f g) (f ≡ g)
face-decides f g =
    let colours = Decides-and _ _ (Decides-eqb f.fg g.fg) (Decides-eqb f.bg g.bg) in
    let bold = Decides-and _ _ colours (flag-decides f.bold g.bold) in
    let underline = Decides-and _ _ bold (flag-decides f.underline g.underline) in
    Decides-like (same_face f g)
    (λ h. let b = h.0.0 in attributes-same f.fg f.bg g.fg g.bg f.bold f.underline f.inverse g.bold g.underline g.inverse b.0.0 b.0.1 b.1 h.0.1 h.1)
    (λ e. ((((ap (λ x. x.fg) e, ap (λ x. x.bg) e), ap (λ x. x.bold) e), ap (λ x. x.underline) e), ap (λ x. x.inverse) e))
    (Decides-and _ _ underline (flag-decides f.inverse g.inverse))

pub glyph-decides : (g h : Glyph) → Decides (same_glyph g h) (g ≡ h)
glyph-decides g h =
    let marks = Decides-and _ _ (Decides-eqb g.base h.base) (bytes_eq-Decides g.marks h.marks) in
    let count = Decides-and _ _ marks (Decides-eqb g.count h.count) in
    Decides-like (same_glyph g h)
    (λ e. glyphs-same g.base g.count g.width h.base h.count h.width g.marks h.marks e.0.0.0 e.0.0.1 e.0.1 e.1)
    (λ e. (((ap (λ x. x.base) e, ap (λ x. x.marks) e), ap (λ x. x.count) e), ap (λ x. x.width) e))
    (Decides-and _ _ count (Decides-eqb g.width h.width))

pub face-told : (f g : Attributes) → same_face f g ≡ true → f ≡ g
face-told f g = (face-decides f g).0

pub face-itself : (f : Attributes) → same_face f f ≡ true
face-itself f = (face-decides f f).1 refl

pub cell-told : (x y : Cell) → same_cell x y ≡ true → x ≡ y
cell-told (Blank f) (Blank g) e = ap Blank (face-told f g e)
cell-told (First g f) (First h k) e =
    let parts = and_parts _ _ e in let glyph = (glyph-decides g h).0 parts.0 in let face = face-told f k parts.1 in cc
cell-told Rest Rest e = refl
cell-told x y e = absurd (cc)

pub cell-itself : (x : Cell) → same_cell x x ≡ true
cell-itself (Blank f) = face-itself f
cell-itself (First g f) = and_from (same_glyph g g) (same_face f f) ((glyph-decides g g).1 refl) (face-itself f)
cell-itself Rest = refl
