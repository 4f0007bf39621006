use Rattle.std.proofs.Common.{◌≤◌}
use Rattle.rd_player.specs.Devices.{sunk_by}
use Rattle.rd_player.specs.Acts.{mode_of, standing}
use Rattle.rd_player.proofs.Making.{Making}
use Rattle.rd_player.proofs.run.run_lines.Given as goal

abbrev pub invariant-each_line : goal.invariant-each_line
invariant-each_line g l = record {
  making : Making (mode_of l.fn.run) l.lines l.line-index (standing l.run)
      (sunk_by g.K.Sink.written g.K.Sink.faults l.fn.screen l.screen)
      (sunk_by g.R.Sink.written g.R.Sink.faults l.fn.report l.report) l.fn.steps l.steps;
  counted : l.run.shown ≤ l.run.lines;
  screen : g.K.Sink.faults l.fn.screen ≤ g.K.Sink.faults l.screen;
  report : g.R.Sink.faults l.fn.report ≤ g.R.Sink.faults l.report;
}
