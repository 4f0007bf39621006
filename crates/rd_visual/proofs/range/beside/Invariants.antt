use Rattle.std.proofs.Common.{◌≡◌, ◌-◌, drop}
use Rattle.rd_visual.specs.Motion.{behind}
use Rattle.rd_visual.specs.Ways.{along, beside}
use Rattle.rd_visual.proofs.range.beside.Given as goal

abbrev pub invariant-loop-place : goal.invariant-loop-place
invariant-loop-place l = behind l.pos (drop (l.place - 1) (along l.way l.ranges)) ≡ beside l.way l.pos l.ranges
