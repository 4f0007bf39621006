use Rattle.std.proofs.Common.{◌≡◌, ◌-◌, ◌≤◌}
use Rattle.rd_props.specs.Buffers.{meaning}
use Rattle.rd_items.specs.Readings.{reading}
use Rattle.rd_items.specs.Pieces.{scene_of}
use Rattle.rd_items.specs.Items.{items_of}
use Rattle.rd_items.specs.Walks.{whole, pieces_left}
use Rattle.rd_items.specs.AlikeRanges.{IsAlikeRange}
use Rattle.rd_items.proofs.items.Items.with_appearance.Given as goal

abbrev pub invariant-loop-walk : goal.invariant-loop-walk
invariant-loop-walk l = record {
  first : l.view.state.now.text.begin ≤ l.pos;
  last : l.pos ≤ l.view.state.now.text.end;
  behind : l.start ≤ l.pos;
  whole : whole l.walk.items l.walk.since l.walk.held (pieces_left (meaning l.view.state.now) (scene_of l.view) l.start l.pos) ≡ items_of (scene_of l.view) (reading (meaning l.view.state.now) l.view.objects.now l.start);
  range : IsAlikeRange (meaning l.view.state.now) l.view.objects.now l.range;
}

abbrev pub decreases-loop-walk : goal.decreases-loop-walk
decreases-loop-walk l = l.view.state.now.text.end - l.pos
