-- Tests that tell faces, glyphs and cells apart.
use Rattle.std.specs.Prelude.{◌==◌, Bool, true, false, if◌then◌else◌, ◌&&◌, not}
use Rattle.std.specs.Str.{bytes_eq}
use Rattle.rd_base.specs.Faces.{Attributes}
use Rattle.rd_base.specs.declared.cell.Glyph.{Glyph}
use Rattle.rd_base.specs.declared.cell.Cell.{Cell}
use Rattle.rd_base.specs.declared.cell.Cell.TheVariants.{Blank, First, Rest}

abbrev pub same_flag : Bool → Bool → Bool
same_flag a b = if a then b else not b

abbrev pub same_face : Attributes → Attributes → Bool
same_face f g = f.fg == g.fg && f.bg == g.bg && same_flag f.bold g.bold && same_flag f.underline g.underline && same_flag f.inverse g.inverse

abbrev pub same_glyph : Glyph → Glyph → Bool
same_glyph g h = g.base == h.base && bytes_eq g.marks h.marks && g.count == h.count && g.width == h.width

abbrev pub same_cell : Cell → Cell → Bool
same_cell (Blank f) (Blank g) = same_face f g
same_cell (First g f) (First h e) = same_glyph g h && same_face f e
same_cell Rest Rest = true
same_cell _ _ = false
