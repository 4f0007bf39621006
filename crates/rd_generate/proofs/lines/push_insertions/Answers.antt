use Rattle.std.proofs.Common.{◌≡◌, ◌++◌, ◌*◌, ap, ◌∙◌, arith}
use Rattle.rd_generate.specs.Generated.{hundreds, insertion, lines_from}
use Rattle.rd_generate.proofs.Texts.{insertions-more, number-hundred, number-zero, none-hundred}
use Rattle.rd_generate.proofs.lines.push_insertions.Goals as goal

pub loop-j-init : goal.loop-j-init
loop-j-init c = (none-hundred c.args.seed c.args.lines.now, number-zero c.args.seed)

pub loop-j-preserved : goal.loop-j-preserved
loop-j-preserved c = (
  insertions-more c.args.seed c.loop-j.j c.loop-j.x c.push_insertion.new.line c.args.lines.now c.loop-j.lines c.push.new.self c.push-in-loop-j.new.lines c.loop-j.invariant.1
      (c.in_ok-x.ensures.line ∙ ap (λ l. l ++ insertion c.loop-j.j (lines_from (100 * c.loop-j.j) c.loop-j.x 100)) c.new-line.ensures)
      c.loop-j.invariant.0 c.in_ok-push.ensures.ok c.in_ok-push-2.ensures,
  c.in_ok-x.ensures.number ∙ number-hundred c.args.seed c.loop-j.j c.loop-j.x c.loop-j.invariant.1,
)

pub returns : goal.returns
returns c =
    let end : c.loop-j.j ≡ 30 = omega (arith, c.loop-j-test.false, c.loop-j.auto.j-end) in
    c.loop-j.invariant.0 ∙ ap (λ n. c.args.lines.now ++ hundreds c.args.seed n) end
