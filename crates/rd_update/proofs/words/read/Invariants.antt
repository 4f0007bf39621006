use Rattle.std.proofs.Common.{◌≡◌, take}
use Rattle.rd_update.specs.Words.{row_words, AreTold}
use Rattle.rd_update.proofs.words.read.Given as goal

-- the words of the cells before this one
abbrev pub invariant-loop-cell : goal.invariant-loop-cell
invariant-loop-cell l = record {
  same : l.words ≡ row_words (take l.cell-index l.cells);
  told : AreTold (take l.cell-index l.cells);
}
