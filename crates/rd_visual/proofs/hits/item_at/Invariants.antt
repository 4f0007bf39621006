use Rattle.std.specs.Prelude.{◌≡◌, drop}
use Rattle.rd_visual.specs.Hits.{item_at, nearer}
use Rattle.rd_visual.proofs.hits.item_at.Given as goal

abbrev pub invariant-loop-place : goal.invariant-loop-place
invariant-loop-place l = item_at l.column l.begins ≡ nearer l.found (item_at l.column (drop l.place l.begins))
