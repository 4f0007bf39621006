-- The glyph rows of a window's matrix, with the cells of its margins.
use Rattle.std.specs.Prelude.{List, [], ◌∷◌}
use Rattle.rd_base.specs.declared.cell.Cell.{Cell}
use Rattle.rd_matrix.specs.Entries.{EntryMeaning}
use Rattle.rd_matrix.specs.declared.matrix.Entry.{Entry}
use Rattle.rd_frame.specs.Panes.{GlyphRow}

-- each row behind the margins at its place in a list; where the list has ended a row has none
abbrev pub glyph_rows : List (List Cell) → List Entry → List GlyphRow
glyph_rows margins [] = []
glyph_rows [] (e ∷ es) = record { margin = []; text = e.row.shown.cells } ∷ glyph_rows [] es
glyph_rows (margin ∷ margins) (e ∷ es) = record { margin = margin; text = e.row.shown.cells } ∷ glyph_rows margins es

-- the glyph row of what is seen of a matrix' row, behind the margins that it has
abbrev pub glyph_row : (EntryMeaning → List Cell) → EntryMeaning → GlyphRow
glyph_row margin_of e = record { margin = margin_of e; text = e.row.cells }
