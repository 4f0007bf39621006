-- The cells of a text.
use Rattle.std.specs.Prelude.{ℕ, zero, suc, List, [], ◌∷◌, ◌++◌, Option, None, Some, option_map, option_and_then, if◌then◌else◌}
use Rattle.std.specs.Str.{chars, is_utf8}
use Rattle.rd_base.specs.Chars.{columns_of}
use Rattle.rd_base.specs.Cells.{single, joined_glyph}
use Rattle.rd_base.specs.Faces.{plain}
use Rattle.rd_base.specs.Glyphs.{glyph_cells}
use Rattle.rd_base.specs.declared.cell.Glyph.{Glyph}
use Rattle.rd_base.specs.declared.cell.Cell.{Cell}

-- the plain cells of a glyph, if there is one
abbrev pub cells_of : Option Glyph → List Cell
cells_of None = []
cells_of (Some g) = glyph_cells g.width g plain

-- One more character behind cells and a glyph that may be joined yet: the cells before the glyph that may be joined then, and that
-- glyph. A character of no column joins the glyph, and does not come first. A control has no columns, and is no character of a text.
abbrev pub taken : List Cell → Option Glyph → ℕ → Option ℕ → Option (List Cell × Glyph)
taken cells held code None = None
taken cells None code (Some zero) = None
taken cells (Some g) code (Some zero) = option_map (λ h. (cells, h)) (joined_glyph g code)
taken cells held code (Some (suc columns)) = Some (cells ++ cells_of held, single code (suc columns))

-- cells, those of a glyph that may be joined yet, and those of the characters behind it
abbrev pub cells_from : List Cell → Option Glyph → List ℕ → Option (List Cell)
cells_from cells held [] = Some (cells ++ cells_of held)
cells_from cells held (code ∷ codes) = option_and_then (λ next. cells_from next.0 (Some next.1) codes) (taken cells held code (columns_of code))

-- the plain cells of a text in UTF-8
abbrev pub text_cells : List ℕ → Option (List Cell)
text_cells bytes = if is_utf8 bytes then cells_from [] None (chars bytes) else None
