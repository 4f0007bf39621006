use Rattle.std.proofs.Common.{◌≡◌, ◌++◌, drop}
use Rattle.rd_base.specs.Faces.{plain}
use Rattle.rd_update.specs.Updates.{text_by, pen_behind}
use Rattle.rd_update.proofs.bytes.push_text.Given as goal

-- the bytes that stand, with the text of the cells that are left, are the whole, and so is the pen behind them
abbrev pub invariant-loop-cell : goal.invariant-loop-cell
invariant-loop-cell l = record {
  bytes : l.bytes ++ text_by l.pen (drop l.cell-index l.cells) ≡ l.fn.bytes ++ text_by plain l.cells;
  pen : pen_behind l.pen (drop l.cell-index l.cells) ≡ pen_behind plain l.cells;
}
