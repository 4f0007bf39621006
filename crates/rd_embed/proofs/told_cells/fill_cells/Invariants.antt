use Rattle.std.proofs.Common.{◌≡◌, map, take, drop}
use Rattle.rd_embed.specs.ToldCells.{told_cell}
use Rattle.rd_embed.proofs.told_cells.fill_cells.Given as goal

abbrev pub invariant-loop-i : goal.invariant-loop-i
invariant-loop-i l = record {
  front : take l.i l.out ≡ map told_cell (take l.i l.cells);
  rest : drop l.i l.out ≡ drop l.i l.fn.out;
}
