use Rattle.std.proofs.Common.{◌≡◌}
use Rattle.std.proofs.lemmas.Result.{IfOk-weaker}
use Rattle.rd_glyphs.specs.Lines.{plain_looks}
use Rattle.rd_glyphs.proofs.Wholeness.{plain-whole}
use Rattle.rd_glyphs.proofs.plain.plain_line.Goals as goal

pub returns-clause-whole : goal.returns-clause-whole
returns-clause-whole c =
    let looks : c.as_slice.result.now ≡ plain_looks c.args.classes.now c.args.text.now = cc c.in_ok-looks.ensures.value in
    let whole = plain-whole c.args.classes.now c.args.face c.args.width c.args.text.now c.in_ok-looks.ensures.codes in
    IfOk-weaker c.fit.result _ _ (λ found same. rw same (rw looks whole)) c.fit.ensures.value
