-- Glyphs as Unicode measures them, and rows in which each glyph stands whole.
use Rattle.std.specs.Prelude.{◌≡◌, ℕ, zero, suc, ◌-◌, ◌<◌, ◌≤◌, ◌==◌, ◌&&◌, if◌then◌else◌, IsTrue, Bool, false, List, [], ◌∷◌, ◌++◌, length, All, replicate, take, slice_index, Some}
use Rattle.std.specs.List.{flat_map}
use Rattle.unicode_width.specs.Width.{char_width}
use Rattle.rd_base.specs.Chars.{is_scalar, encoded}
use Rattle.rd_base.specs.Faces.{Attributes}
use Rattle.rd_base.specs.declared.cell.Glyph.{Glyph}
use Rattle.rd_base.specs.declared.cell.Cell.{Cell}
use Rattle.rd_base.specs.declared.cell.Cell.TheVariants.{Blank, First, Rest}
use Rattle.rd_base.specs.declared.element.Element.{Element}
use Rattle.rd_base.specs.declared.element.Look.{Look}
use Rattle.rd_base.specs.declared.element.Look.TheVariants as look
use Rattle.rd_base.specs.declared.limits.TheConstants.{GLYPH_MARKS}

-- a space without marks
abbrev pub is_space : Glyph → Bool
is_space g = (g.base == 32) && (g.count == 0)

abbrev pub blanks : ℕ → Attributes → List Cell
blanks n face = replicate n (Blank face)

-- the bytes of a glyph: its character, and behind it the marks that join it
abbrev pub glyph_bytes : Glyph → List ℕ
glyph_bytes g = encoded g.base ++ flat_map encoded (take g.count g.marks)

-- the cells of a glyph in so many columns
abbrev pub glyph_cells : ℕ → Glyph → Attributes → List Cell
glyph_cells columns g face =
    if is_space g then blanks columns face else First g face ∷ replicate (columns - 1) Rest

-- the cells of a look in so many columns
abbrev pub look_cells : ℕ → Look → Attributes → List Cell
look_cells columns (look.Glyph g) face = glyph_cells columns g face
look_cells columns other face = blanks columns face

-- a scalar value in the columns that Unicode gives it, 1 to 3, with up to 6 marks that take none
pub record IsMeasured (g : Glyph) : Type 0 where
  pub scalar : IsTrue (is_scalar g.base)
  pub columns : char_width false g.base ≡ Some g.width
  pub some : 1 ≤ g.width
  pub few : g.width ≤ 3
  pub places : length g.marks ≡ GLYPH_MARKS
  pub count : g.count ≤ GLYPH_MARKS
  pub marks : (k : ℕ) → k < g.count → IsTrue (is_scalar (slice_index g.marks k)) × (char_width false (slice_index g.marks k) ≡ Some 0)
  pub rest : (k : ℕ) → g.count ≤ k → k < GLYPH_MARKS → slice_index g.marks k ≡ 0

-- what may stand in a cell: never a space without marks
pub record IsGood (g : Glyph) : Type 0 where
  pub measured : IsMeasured g
  pub seen : is_space g ≡ false

-- a row in which so many later columns of a glyph are still to come: after the first column of a glyph of w columns come
-- w - 1 later ones, and no others stand
abbrev pub IsRowAfter : ℕ → List Cell → Type 0
IsRowAfter zero [] = Unit {0}
IsRowAfter zero (Blank f ∷ cells) = IsRowAfter zero cells
IsRowAfter zero (First g f ∷ cells) = IsGood g × IsRowAfter (g.width - 1) cells
IsRowAfter zero (Rest ∷ cells) = ⊥
IsRowAfter (suc due) (Rest ∷ cells) = IsRowAfter due cells
IsRowAfter (suc due) _ = ⊥

-- a look whose glyph is measured
abbrev pub IsMeasuredLook : Look → Type 0
IsMeasuredLook (look.Glyph g) = IsMeasured g
IsMeasuredLook _ = Unit {0}

-- elements whose glyphs are measured
abbrev pub AreMeasured : List Element → Type 0
AreMeasured es = All (λ e. IsMeasuredLook e.look) es
