use Rattle.std.proofs.Common.{◌≡◌, ◌-◌, ◌++◌, drop}
use Rattle.std.specs.List.{flat_map}
use Rattle.rd_base.specs.declared.limits.TheConstants.{WINDOWS}
use Rattle.rd_tree.specs.Calls.{frame_of}
use Rattle.rd_tree.specs.Windows.{placed}
use Rattle.rd_layout.specs.Redisplays.{band_of}
use Rattle.rd_session.proofs.bands.push_bands.Given as goal

abbrev pub invariant-loop-place : goal.invariant-loop-place
invariant-loop-place l =
    l.bands ++ flat_map (band_of l.width) (drop l.i (placed l.tree.windows (frame_of l.tree))) ≡ l.fn.bands ++ flat_map (band_of l.width) (placed l.tree.windows (frame_of l.tree))

abbrev pub decreases-loop-place : goal.decreases-loop-place
decreases-loop-place l = WINDOWS - l.i
