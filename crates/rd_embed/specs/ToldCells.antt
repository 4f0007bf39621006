-- What is told of the screen: its cells, and what stands under them.
use Rattle.std.specs.Prelude.{◌≡◌, ℕ, List, [], map, replicate, Option, None, Some, option_and_then, option_map, slice_get}
use Rattle.rd_base.specs.Faces.{Attributes, plain}
use Rattle.rd_base.specs.declared.cell.Cell.{Cell}
use Rattle.rd_base.specs.declared.cell.Cell.TheVariants.{Blank, First, Rest}
use Rattle.rd_base.specs.declared.limits.TheConstants.{GLYPH_MARKS}
use Rattle.rd_dump.specs.Dumps.{cell_text}
use Rattle.rd_term.specs.Pictures.{Picture}
use Rattle.rd_embed.specs.Choices.{look_of}
use Rattle.rd_embed.specs.Fills.{Fills}
use Rattle.rd_embed.specs.declared.told_cells.CellTold.{CellTold}
use Rattle.rd_embed.specs.declared.choices.TheConstants.{NONE}

-- what is told of a cell that begins no character
abbrev pub bare : ℕ → ℕ → ℕ → Attributes → CellTold
bare code width part face = record { code = code; marks = replicate GLYPH_MARKS 0; mark_count = 0; width = width; part = part; reserved = 0; face = look_of face }

-- what is told of a cell; a later column of a character is told in the plain face
abbrev pub told_cell : Cell → CellTold
told_cell (Blank face) = bare 32 1 0 face
told_cell (First g face) = record { code = g.base; marks = g.marks; mark_count = g.count; width = g.width; part = 1; reserved = 0; face = look_of face }
told_cell Rest = bare 0 0 2 plain
