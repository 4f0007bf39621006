use Rattle.std.proofs.Common.{◌≡◌, ◌<◌, length, subst, sym, take, map, set, ◌+◌, arith}
use Rattle.rd_embed.specs.ToldCells.{told_cell}
use Rattle.rd_embed.specs.declared.told_cells.CellTold.{CellTold}
use Rattle.rd_embed.proofs.Filling.{all-told, rest-more, told-more}
use Rattle.rd_embed.proofs.told_cells.fill_cells.Goals as goal

pub loop-i-preserved : goal.loop-i-preserved
loop-i-preserved c = record {
  front = subst (λ (y : CellTold). take (c.loop-i.i + 1) (set c.loop-i.out c.loop-i.i y) ≡ map told_cell (take (c.loop-i.i + 1) c.args.cells.now)) (sym c.told_cell.ensures)
      (told-more told_cell c.args.cells.now c.loop-i.out c.args.out.now c.loop-i.i c.index-cells-i.result (omega arith) (omega arith) c.index-cells-i.is c.loop-i.invariant.front);
  rest = rest-more c.loop-i.out c.args.out.now c.loop-i.i c.told_cell.result c.loop-i.invariant.rest;
}

pub returns : goal.returns
returns c = all-told told_cell c.args.cells.now c.loop-i.out c.args.out.now c.loop-i.i c.min-count.result (omega arith) c.min-count.ensures c.loop-i.invariant.front c.loop-i.invariant.rest
