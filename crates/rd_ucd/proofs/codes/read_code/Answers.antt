use Rattle.std.proofs.Common.{arith, sym}
use Rattle.std.proofs.lemmas.Bool.Decides.{nat_tests}
use Rattle.rd_ucd.proofs.Large.{code_of-too_large}
use Rattle.rd_ucd.proofs.codes.read_code.Goals as goal

pub returns-then-code-ge-CODE_POINTS-clause-value : goal.returns-then-code-ge-CODE_POINTS-clause-value
returns-then-code-ge-CODE_POINTS-clause-value c =
    let told = c.in_ok-code.ensures.value in
    sym (code_of-too_large c.args.digits.now c.loop-digit.code c.loop-digit.digit-index c.from.result c.in_ok-code.field-0 (omega arith) (omega arith) c.loop-digit-test.true
    (sym c.from.ensures) (grind (arith, nat_tests)) (sym told.1) c.if-code-ge-CODE_POINTS.true c.loop-digit.invariant.rest)
