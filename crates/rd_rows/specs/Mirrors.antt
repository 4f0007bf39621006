-- The mirror image of a row.
use Rattle.std.specs.Prelude.{ℕ, suc, List, [], ◌∷◌, ◌++◌, replicate}
use Rattle.rd_base.specs.declared.cell.Cell.{Cell}
use Rattle.rd_base.specs.declared.cell.Cell.TheVariants.{Rest}

-- how many later columns of a glyph stand at the beginning
abbrev pub leading_rests : List Cell → ℕ
leading_rests (Rest ∷ cells) = suc (leading_rests cells)
leading_rests cells = 0

-- the mirror image: blanks and glyphs from the last to the first, where the later columns of a glyph stay behind its first
abbrev pub mirror_image : List Cell → List Cell
mirror_image [] = []
mirror_image (Rest ∷ cells) = mirror_image cells
mirror_image (cell ∷ cells) = mirror_image cells ++ cell ∷ replicate (leading_rests cells) Rest
