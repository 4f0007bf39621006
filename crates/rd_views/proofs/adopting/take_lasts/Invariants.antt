use Rattle.std.specs.Prelude.{◌≡◌, ◌++◌, drop, length, take}
use Rattle.rd_views.specs.Layings.{AreOnce, layouts_taken}
use Rattle.rd_views.proofs.adopting.take_lasts.Given as goal

abbrev pub invariant-loop-i : goal.invariant-loop-i
invariant-loop-i l = record {
  same : length l.layouts ≡ length l.windows;
  once : AreOnce (drop l.i l.layouts);
  taken : take l.i l.layouts ++ layouts_taken l.lasts (drop l.i l.windows) (drop l.i l.layouts) ≡ layouts_taken l.fn.lasts l.windows l.fn.layouts;
}
