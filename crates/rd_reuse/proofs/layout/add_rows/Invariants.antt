use Rattle.std.proofs.Common.{◌≡◌, ◌≤◌, length}
use Rattle.rd_reuse.specs.Laying.{placed}
use Rattle.rd_reuse.proofs.Placing.{with_rows}
use Rattle.rd_reuse.proofs.layout.add_rows.Given as goal

abbrev pub invariant-loop-row : goal.invariant-loop-row
invariant-loop-row l = record {
  rows : with_rows l.first l.height l.fn.matrix (placed l.start 0 l.yielded) ≡ l.matrix;
  number : l.number ≡ length l.yielded;
  room : length l.matrix ≤ l.height;
}
