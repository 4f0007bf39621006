-- The columns of measured glyphs, and their bytes.
use Rattle.std.proofs.Common.{◌≡◌, ℕ, ◌<◌, ◌==◌, Bool, true, false, [], Option, None, Some, inl, inr, sym, refl, ap, ◌∙◌, arith}
use Rattle.std.specs.Prelude.{slice_index}
use Rattle.std.specs.Char.{encode_utf8}
use Rattle.std.proofs.lemmas.Bool.{cases_eq, cond-true}
use Rattle.std.proofs.lemmas.Bool.Decides.{nat_tests}
use Rattle.unicode_width.specs.Width.{char_width}
use Rattle.rd_base.specs.Chars.{is_scalar, encoded, columns_of}
use Rattle.rd_base.specs.Faces.{Attributes}
use Rattle.rd_base.specs.Glyphs.{IsMeasured}
use Rattle.rd_base.specs.declared.cell.Glyph.{Glyph}
use Rattle.rd_term.specs.Terminals.{feed_bytes, show}
use Rattle.rd_term.proofs.Encoded.{Rows, standing, encoded_fed}

-- a character that has columns is none that has not
pub no-control : (code w control : ℕ) → columns_of control ≡ None → columns_of code ≡ Some w → (code == control) ≡ false
no-control code w control without e = elim (cases_eq code control) [
  | inl same ↦ absurd (let none : Option ℕ = None in let h : none ≡ Some w = sym without ∙ (ap columns_of (sym same) ∙ e) in cc)
  | inr other ↦ grind (arith, nat_tests)
]

escape-columns : columns_of 27 ≡ None
unfolding char_width
escape-columns = refl

pub space-columns : columns_of 32 ≡ Some 1
unfolding char_width
space-columns = refl

columns-are : (code w : ℕ) → is_scalar code ≡ true → char_width false code ≡ Some w → columns_of code ≡ Some w
columns-are code w s e = rw (s, e) refl

pub base-columns : (g : Glyph) → IsMeasured g → columns_of g.base ≡ Some g.width
base-columns g h = columns-are g.base g.width h.scalar h.columns

pub mark-columns : (g : Glyph) (k : ℕ) → IsMeasured g → k < g.count → columns_of (slice_index g.marks k) ≡ Some 0
mark-columns g k h lt = let m = h.marks k lt in columns-are (slice_index g.marks k) 0 m.0 m.1

pub space-narrow : (g : Glyph) → IsMeasured g → g.base ≡ 32 → g.width ≡ 1
space-narrow g h e = let c : Some g.width ≡ Some 1 = sym (base-columns g h) ∙ ap columns_of e ∙ space-columns in cc

-- a character is shown by its columns
pub shown_fed : (region : Option (ℕ × ℕ)) (rows : Rows) (cursor : Option (ℕ × ℕ)) (wait : Bool) (pen : Option Attributes) (latest : Option (ℕ × ℕ)) (code w : ℕ)
    → is_scalar code ≡ true → columns_of code ≡ Some w
    → feed_bytes (standing region rows cursor wait pen latest) (encoded code) ≡ show code (Some w) (standing region rows cursor wait pen latest)
shown_fed region rows cursor wait pen latest code w s e =
    ap (feed_bytes (standing region rows cursor wait pen latest)) (cond-true (is_scalar code) (encode_utf8 code) [] s)
    ∙ encoded_fed region rows cursor wait pen latest code s (no-control code w 27 escape-columns e)
    ∙ ap (λ c. show code c (standing region rows cursor wait pen latest)) e
