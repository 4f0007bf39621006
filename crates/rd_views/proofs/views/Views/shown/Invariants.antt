use Rattle.std.specs.Prelude.{◌≡◌, take}
use Rattle.rd_views.specs.Layings.{views_taken}
use Rattle.rd_views.proofs.views.Views.shown.Given as goal

abbrev pub invariant-loop-i : goal.invariant-loop-i
invariant-loop-i l = l.windows ≡ take l.i (views_taken l.self.layouts l.desired.windows l.desired.layouts.items)
