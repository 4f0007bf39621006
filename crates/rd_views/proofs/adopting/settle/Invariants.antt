use Rattle.std.specs.Prelude.{◌≡◌, drop}
use Rattle.rd_views.specs.Layings.{CanSettle, all_settled}
use Rattle.rd_views.proofs.adopting.settle.Given as goal

abbrev pub invariant-loop-i : goal.invariant-loop-i
invariant-loop-i l = record {
  can : CanSettle l.state (drop l.i l.windows) (drop l.i l.layouts);
  settled : all_settled (drop l.i l.windows) (drop l.i l.layouts) l.state ≡ all_settled l.windows l.layouts l.fn.state;
}
