use Rattle.std.proofs.Common.{◌≡◌, ◌≤◌, ◌-◌}
use Rattle.rd_base.specs.declared.limits.TheConstants.{LINES}
use Rattle.rd_player.specs.Devices.{sunk_by}
use Rattle.rd_player.specs.Acts.{mode_of, standing}
use Rattle.rd_player.proofs.Taking.{Running}
use Rattle.rd_player.proofs.run.run_script.Given as goal

abbrev pub invariant-each_line : goal.invariant-each_line
invariant-each_line g l = record {
  running : Running (mode_of l.fn.run) (g.S.Source.left l.fn.script) (g.S.Source.left l.script) l.lines (standing l.run)
      (sunk_by g.K.Sink.written g.K.Sink.faults l.fn.screen l.screen)
      (sunk_by g.R.Sink.written g.R.Sink.faults l.fn.report l.report) l.fn.steps l.steps;
  counted : l.run.shown ≤ l.run.lines;
  script : g.S.Source.faults l.script ≡ g.S.Source.faults l.fn.script;
  screen : g.K.Sink.faults l.fn.screen ≤ g.K.Sink.faults l.screen;
  report : g.R.Sink.faults l.fn.report ≤ g.R.Sink.faults l.report;
}

abbrev pub decreases-each_line : goal.decreases-each_line
decreases-each_line g l = LINES - l.lines.given
