use Rattle.std.specs.Prelude.{map, take}
use Rattle.rd_frame.specs.Panes.{row_cells}
use Rattle.rd_frame.specs.Held.{glyph_rows}
use Rattle.rd_frame.proofs.Screens.{IsLaid}
use Rattle.rd_frame.proofs.window.paint_text.Given as goal

abbrev pub invariant-loop-row : goal.invariant-loop-row
invariant-loop-row l = IsLaid l.window l.border l.fn.screen l.screen l.window.rect.y (take l.row (map row_cells (glyph_rows l.margins l.matrix)))
