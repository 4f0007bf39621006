use Rattle.std.proofs.Common.{◌-◌, ◌≡◌, ◌+◌, ◌<◌, ◌≤◌, drop}
use Rattle.rd_props.specs.Buffers.{meaning}
use Rattle.rd_items.specs.Readings.{reading}
use Rattle.rd_items.specs.Pieces.{run_length}
use Rattle.rd_items.specs.AlikeRanges.{IsAlikeRange}
use Rattle.rd_items.proofs.alike_range.run_end.Given as goal

abbrev pub invariant-loop-to : goal.invariant-loop-to
invariant-loop-to l = record {
  ordered : l.pos < l.to;
  within : l.to ≤ l.end;
  range : IsAlikeRange (meaning l.view.state.now) l.view.objects.now l.range;
  length : l.to + run_length l.view.state.now.settings.invisible l.showing (reading (meaning l.view.state.now) l.view.objects.now l.to) ≡ 1 + l.pos + run_length l.view.state.now.settings.invisible l.showing (drop 1 (reading (meaning l.view.state.now) l.view.objects.now l.pos));
}

abbrev pub decreases-loop-to : goal.decreases-loop-to
decreases-loop-to l = l.end - l.to
