use Rattle.std.proofs.Common.{◌≡◌, ◌++◌, length}
use Rattle.rd_visual.specs.Motion.{ranges_in_turn}
use Rattle.rd_visual.proofs.ranges.in_turn.Given as goal

abbrev pub invariant-loop-turn : goal.invariant-loop-turn
invariant-loop-turn l = record {
  places : l.order.places ≡ length l.items;
  all : l.ranges ++ ranges_in_turn l.start l.items l.order.turns ≡ ranges_in_turn l.start l.items l.fn.order.turns;
}

abbrev pub decreases-loop-turn : goal.decreases-loop-turn
decreases-loop-turn l = length l.order.turns
