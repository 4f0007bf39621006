use Rattle.std.specs.Prelude.{All, Option, None, Some, [], ◌∷◌}
use Rattle.rd_base.specs.Cells.{IsColoured, single}
use Rattle.rd_base.specs.declared.cell.Glyph.{Glyph}
use Rattle.rd_frame.specs.Panes.{border_cell}
use Rattle.rd_rows.proofs.Marks.{mark-whole}
use Rattle.rd_frame.proofs.Whole.{mark-coloured, bar-mark}
use Rattle.rd_frame.proofs.laws.borders_are_whole.Goals as goal

pub returns : goal.returns
returns c = record { bar = mark-whole (single 124 1) bar-mark; slot = mark-whole; coloured = coloured } where
  coloured : (slot : Option Glyph) → All IsColoured (border_cell slot ∷ [])
  coloured None = mark-coloured (single 124 1)
  coloured (Some slot) = mark-coloured slot
