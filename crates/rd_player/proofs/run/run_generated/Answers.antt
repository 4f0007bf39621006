use Rattle.std.proofs.Common.{◌≡◌, ◌∙◌, length, ap, arith}
use Rattle.rd_player.specs.Acts.{mode_of}
use Rattle.rd_player.proofs.Making.{no-memory, script-length}
use Rattle.rd_player.proofs.run.run_generated.Goals as goal

pub returns-in-Ok-clause-comes : goal.returns-in-Ok-clause-comes
returns-in-Ok-clause-comes g c given left faults mode none = c.run_lines.ensures.comes given c.args.number left faults mode none c.requires.generated (c.as_slice.ensures ∙ c.in-Ok.ensures)

pub returns-in-Err-clause-comes : goal.returns-in-Err-clause-comes
returns-in-Err-clause-comes g c given left faults mode none =
    no-memory given (mode_of c.args.run.now) c.args.number left _ _ faults (g.K.Sink.faults c.args.screen.now) (g.R.Sink.faults c.args.report.now) c.args.steps.now mode none c.requires.generated

pub run_lines-requires-clause-few : goal.run_lines-requires-clause-few
run_lines-requires-clause-few g c =
    let count : length c.as_slice.result.now ≡ 605 = ap length (c.as_slice.ensures ∙ c.in-Ok.ensures) ∙ script-length c.args.number in
    omega (arith, count)
