-- Faces and cells whose colours are in their range.
use Rattle.std.proofs.Common.{ℕ, ◌-◌, ◌≤◌, ◌∷◌, replicate, All, ◌==◌, arith}
use Rattle.std.proofs.lemmas.List.Elements.{All-cons, All-replicate}
use Rattle.rd_base.proofs.Choices.{either}
use Rattle.rd_base.specs.Cells.{HasColours, IsColoured}
use Rattle.rd_base.specs.Faces.{Attributes, plain, over}
use Rattle.rd_base.specs.declared.limits.TheConstants.{COLOURS}
use Rattle.rd_base.specs.Glyphs.{is_space, blanks, look_cells}
use Rattle.rd_base.specs.declared.cell.Cell.{Cell}
use Rattle.rd_base.specs.declared.cell.Cell.TheVariants.{Blank, First, Rest}
use Rattle.rd_base.specs.declared.element.Look.{Look}
use Rattle.rd_base.specs.declared.element.Look.TheVariants as look

pub plain-coloured : HasColours plain
plain-coloured = record { fg = omega arith; bg = omega arith }

-- a face over another
pub over-coloured : (top under : Attributes) → HasColours top → HasColours under → HasColours (over top under)
over-coloured top under h k = record {
  fg = either (λ n. n ≤ COLOURS) (top.fg == COLOURS) under.fg top.fg k.fg h.fg;
  bg = either (λ n. n ≤ COLOURS) (top.bg == COLOURS) under.bg top.bg k.bg h.bg;
}

pub blanks-coloured : (n : ℕ) (face : Attributes) → HasColours face → All IsColoured (blanks n face)
blanks-coloured n face h = All-replicate IsColoured n (Blank face) h

-- a cell with the later columns of its glyph
pub with-rests : (cell : Cell) (n : ℕ) → IsColoured cell → All IsColoured (cell ∷ replicate n Rest)
with-rests cell n h = All-cons IsColoured cell (replicate n Rest) h (All-replicate IsColoured n Rest tt)

pub look-coloured : (columns : ℕ) (l : Look) (face : Attributes) → HasColours face → All IsColoured (look_cells columns l face)
look-coloured columns (look.Glyph g) face h = either (All IsColoured) (is_space g) _ _ (blanks-coloured columns face h) (with-rests (First g face) (columns - 1) h)
look-coloured columns other face h = blanks-coloured columns face h
