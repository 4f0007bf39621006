use Rattle.std.proofs.Common.{◌≡◌, ◌+◌, None}
use Rattle.std.specs.List.{find}
use Rattle.rd_start.specs.Chosen.{places_of}
use Rattle.rd_start.specs.Starts.{around, suits}
use Rattle.rd_start.specs.Strips.{first_row}
use Rattle.rd_start.proofs.view.nearest.Given as goal

abbrev pub invariant-loop-step : goal.invariant-loop-step
invariant-loop-step g l = record {
  source : g.B.BlockSource.meaning l.source ≡ g.B.BlockSource.meaning l.fn.source;
  none : find (suits l.fn.window.wanted (places_of (g.B.BlockSource.meaning l.fn.source) l.fn.window.strip.sweep.shape l.fn.window.wanted)) (around (first_row (g.B.BlockSource.meaning l.fn.source) l.fn.window.strip + l.fn.window.strip.home) l.step) ≡ None;
}
