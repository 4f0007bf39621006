use Rattle.std.proofs.Common.{◌≡◌, None, ap, ◌∙◌, refl, arith}
use Rattle.rd_run.specs.Runs.{Standing}
use Rattle.rd_player.specs.Devices.{sunk_by}
use Rattle.rd_player.specs.Acts.{ended_by, halted_by, mode_of, standing}
use Rattle.rd_player.proofs.Reading.{read-nothing, is-open, not-err, not-true}
use Rattle.rd_player.proofs.Taking.{Handed, begun, handed, ran-line, ends-as, ends-done, ends-fault, ends-halt, no-memory}
use Rattle.rd_player.proofs.run.run_script.Given as given
use Rattle.rd_player.proofs.run.run_script.Goals as goal
use Rattle.rd_player.proofs.run.run_script.Goals.{In-Ok-true}

pub returns-in_default-clause-comes : goal.returns-in_default-clause-comes
returns-in_default-clause-comes g c given mode none =
    no-memory given (mode_of c.args.run.now) _ _ _ (g.S.Source.faults c.args.script.now) (g.K.Sink.faults c.args.screen.now) (g.R.Sink.faults c.args.report.now) c.args.steps.now mode none c.requires.read

pub each_line-init : goal.each_line-init
each_line-init g c =
    let shown : c.args.run.now.shown ≡ 0 = ap (λ (x : Standing). x.shown) c.requires.begun in
    record {
      running = begun (mode_of c.args.run.now) (g.S.Source.left c.args.script.now) c.in-Ok.lines (standing c.args.run.now) _ _ _ _ _ (read-nothing _ c.in-Ok.lines c.in-Ok.ensures) c.requires.begun;
      counted = omega (arith, shown);
      script = refl;
      screen = omega arith;
      report = omega arith;
    }

pub returns-in-Ok-false-clause-comes : goal.returns-in-Ok-false-clause-comes
returns-in-Ok-false-clause-comes g c given mode none =
    let left = g.S.Source.left in
    let old = c.each_line.lines in
    let running = c.each_line.invariant.running in
    let clear : old.fault ≡ None = running.2.read.clear in
    let came = rw c.in-Ok-false.field-0-test at (c.in-Ok-false.ensures.answers clear) in
    ends-done given (mode_of c.args.run.now) _ _ _ (g.S.Source.faults c.args.script.now) (g.S.Source.faults c.next.new.source) old c.next.new.self (standing c.each_line.run) _ _ c.args.steps.now c.each_line.steps mode (none, c.in-Ok-false.ensures.kept ∙ c.each_line.invariant.script) c.requires.read running
    (λ over. ap left (c.next.ensures.over clear over).1) (came.0, came.1, came.2)

pub returns-in-Err-clause-comes : goal.returns-in-Err-clause-comes
returns-in-Err-clause-comes g c given mode none =
    let old = c.each_line.lines in
    let running = c.each_line.invariant.running in
    let clear : old.fault ≡ None = running.2.read.clear in
    let open_still = is-open old c.next.result (λ over. (c.next.ensures.over clear over).0) (not-err c.next.result c.in-Err.fault c.in-Err.is) in
    let came = c.in-Err.ensures.answers clear in
    ends-as c.ended_by.result (ended_by c.in-Err.fault c.each_line.run.lines) given (mode_of c.args.run.now) _ _ _ _ _ _ c.ended_by.ensures
    (ends-fault given (mode_of c.args.run.now) _ _ _ (g.S.Source.faults c.args.script.now) (g.S.Source.faults c.each_line.script) (g.S.Source.faults c.next.new.source) old c.next.new.self c.in-Err.fault c.next.result (standing c.each_line.run) _ _
    c.args.steps.now c.each_line.steps mode none c.requires.read running open_still c.in-Err.is c.each_line.invariant.script (c.next.ensures.failed clear) c.in-Err.ensures.kept (came.0, came.1, came.2))

-- a line was read, and is to be run
hand : (g : given.Over) (c : goal.In-Ok-true g) → Handed (mode_of c.args.run.now) (g.S.Source.left c.args.script.now) (g.S.Source.left c.next.new.source) c.next.new.self (standing c.each_line.run)
    (sunk_by g.K.Sink.written g.K.Sink.faults c.args.screen.now c.each_line.screen) (sunk_by g.R.Sink.written g.R.Sink.faults c.args.report.now c.each_line.report) c.args.steps.now c.each_line.steps
hand g c =
    let old = c.each_line.lines in
    let running = c.each_line.invariant.running in
    let clear : old.fault ≡ None = running.2.read.clear in
    let open_still = is-open old c.next.result (λ over. (c.next.ensures.over clear over).0) (not-true c.next.result c.in-Ok-true.field-0 c.in-Ok-true.is c.in-Ok-true.field-0-test) in
    let came = rw c.in-Ok-true.field-0-test at (c.in-Ok-true.ensures.answers clear) in
    handed (mode_of c.args.run.now) _ _ _ old c.next.new.self (standing c.each_line.run) _ _ _ _ running open_still (came.0, came.1, came.2)

pub each_line-preserved : goal.each_line-preserved
each_line-preserved g c =
    let line = hand g (goal.at.each_line-preserved g c).In-Ok-true in
    record {
      running = ran-line (mode_of c.args.run.now) _ _ c.next.new.self c.line.result.now (standing c.each_line.run) (standing c.line-in-each_line.new.self) _ _ _ _ _ _ _ _ _ _ _ _ _ _ _
          c.line.ensures line c.in-Ok-line.ensures.acts c.in-Ok-line.ensures.places;
      counted = c.in-Ok-line.ensures.counted;
      script = c.in-Ok-true.ensures.kept ∙ c.each_line.invariant.script;
      screen = omega (arith, c.in-Ok-line.ensures.screen);
      report = omega (arith, c.in-Ok-line.ensures.report);
    }

pub returns-in-Err-line-clause-comes : goal.returns-in-Err-line-clause-comes
returns-in-Err-line-clause-comes g c given mode none =
    ends-as c.halted_by.result (halted_by c.in-Err-line.halt c.each_line.run.lines) given (mode_of c.args.run.now) _ _ _ _ _ _ c.halted_by.ensures
    (ends-halt given (mode_of c.args.run.now) _ _ (g.S.Source.faults c.args.script.now) (g.S.Source.faults c.next.new.source) c.next.new.self c.line.result.now c.in-Err-line.halt (standing c.each_line.run) (standing c.line-in-each_line.new.self)
    _ _ _ _ _ _ _ _ _ _ _ _ c.args.steps.now c.each_line.steps c.line-in-each_line.new.steps mode (none, c.in-Ok-true.ensures.kept ∙ c.each_line.invariant.script) c.requires.read c.line.ensures (hand g (goal.at.returns-in-Err-line-clause-comes g c).In-Ok-true) c.in-Err-line.ensures.acts c.in-Err-line.ensures.places)
