use Rattle.std.proofs.Common.{◌≡◌, ◌≤◌, ◌-◌, length, take}
use Rattle.std.specs.Vec.{vec_capacity}
use Rattle.rd_base.specs.declared.limits.TheConstants.{WINDOWS}
use Rattle.rd_layout.specs.Facts.{facts_of}
use Rattle.rd_player.proofs.windows.collect.Given as goal

abbrev pub invariant-each_window : goal.invariant-each_window
invariant-each_window l = record {
  facts : l.list.items ≡ take l.i (facts_of l.session);
  upto : l.i ≤ length (facts_of l.session);
  room : WINDOWS ≤ vec_capacity l.list;
}

abbrev pub decreases-each_window : goal.decreases-each_window
decreases-each_window l = WINDOWS - l.i
