use Rattle.std.proofs.Common.{◌≡◌, ◌-◌, drop}
use Rattle.std.specs.Prelude.{find}
use Rattle.rd_base.specs.declared.limits.TheConstants.{WINDOWS}
use Rattle.rd_tree.specs.Calls.{frame_of}
use Rattle.rd_tree.specs.Places.{lies_in}
use Rattle.rd_tree.specs.Windows.{placed}
use Rattle.rd_tree.specs.declared.placed.Placed.{Placed}
use Rattle.rd_views.proofs.spots.window_under.Given as goal

abbrev pub invariant-loop-place : goal.invariant-loop-place
invariant-loop-place l =
    let windows = placed l.tree.windows (frame_of l.tree) in
    find (λ (place : Placed). lies_in l.column l.row place.rect) (drop l.i windows) ≡ find (λ (place : Placed). lies_in l.column l.row place.rect) windows

abbrev pub decreases-loop-place : goal.decreases-loop-place
decreases-loop-place l = WINDOWS - l.i
