use Rattle.std.proofs.Common.{◌≡◌, ◌∙◌, length, ap, arith}
use Rattle.rd_run.specs.Runs.{Standing}
use Rattle.rd_player.specs.Acts.{halted_by, mode_of, standing}
use Rattle.rd_player.proofs.Making.{begun, halts-as, made-line, makes-done, makes-halt}
use Rattle.rd_player.proofs.run.run_lines.Goals as goal

pub each_line-init : goal.each_line-init
each_line-init g c =
    let shown : c.args.run.now.shown ≡ 0 = ap (λ (x : Standing). x.shown) c.requires.begun in
    record {
      making = begun (mode_of c.args.run.now) c.args.lines.now (standing c.args.run.now) _ _ _ _ _ c.requires.begun;
      counted = omega (arith, shown);
      screen = omega arith;
      report = omega arith;
    }

pub each_line-preserved : goal.each_line-preserved
each_line-preserved g c = record {
  making = made-line (mode_of c.args.run.now) c.args.lines.now c.each_line.line-index c.as_slice.result.now c.line-item.result (standing c.each_line.run) (standing c.line.new.self) _ _ _ _ _ _ _ _ _ _ _ _ _ _ _
      c.each_line-test.true (c.as_slice.ensures ∙ c.line-item.is) c.each_line.invariant.making c.in-Ok.ensures.acts c.in-Ok.ensures.places;
  counted = c.in-Ok.ensures.counted;
  screen = omega (arith, c.in-Ok.ensures.screen, c.each_line.invariant.screen);
  report = omega (arith, c.in-Ok.ensures.report, c.each_line.invariant.report);
}

pub returns-in-Err-clause-comes : goal.returns-in-Err-clause-comes
returns-in-Err-clause-comes g c given number left faults mode none made is =
    halts-as c.halted_by.result (halted_by c.in-Err.halt c.each_line.run.lines) given (mode_of c.args.run.now) _ _ _ _ _ c.halted_by.ensures
    (makes-halt given (mode_of c.args.run.now) number c.args.lines.now c.each_line.line-index c.as_slice.result.now c.line-item.result left faults c.in-Err.halt (standing c.each_line.run) (standing c.line.new.self)
    _ _ _ _ _ _ _ _ _ _ _ _ c.args.steps.now c.each_line.steps c.line.new.steps mode none made is c.each_line-test.true (c.as_slice.ensures ∙ c.line-item.is) c.each_line.invariant.making
    c.in-Err.ensures.acts c.in-Err.ensures.places)

pub returns-clause-comes : goal.returns-clause-comes
returns-clause-comes g c given number left faults mode none made is =
    let over : c.each_line.line-index ≡ length c.args.lines.now = omega (arith, c.each_line-test.false, c.each_line.auto.line-index-end) in
    makes-done given (mode_of c.args.run.now) number c.args.lines.now c.each_line.line-index left faults c.summary.result (standing c.each_line.run) _ _ c.args.steps.now c.each_line.steps mode none made is over c.each_line.invariant.making
    c.summary.ensures
