use Rattle.std.proofs.Common.{◌≡◌, ◌++◌, ◌+◌, ap, ◌∙◌, arith}
use Rattle.rd_generate.specs.Generated.{lines_from, number, spelling, text_line}
use Rattle.rd_generate.proofs.Texts.{lines-more, none-from, number-zero, number-next}
use Rattle.rd_generate.proofs.lines.push_lines.Goals as goal

pub loop-i-init : goal.loop-i-init
loop-i-init c = (none-from c.args.k c.args.x c.args.line.now, number-zero c.args.x)

pub loop-i-preserved : goal.loop-i-preserved
loop-i-preserved c =
    let next = number-next c.args.x c.loop-i.i c.loop-i.last c.after-last.result c.loop-i.invariant.1 c.after-last.ensures in (
      lines-more c.args.k c.args.x c.loop-i.i _ _ _ c.loop-i.invariant.0
          (c.in_ok-push_line.ensures ∙ ap (λ x. c.loop-i.line ++ spelling (text_line (c.args.k + c.loop-i.i) x)) next),
      next,
    )

pub returns-clause-line : goal.returns-clause-line
returns-clause-line c =
    let end : c.loop-i.i ≡ 100 = omega (arith, c.loop-i-test.false, c.loop-i.auto.i-end) in
    c.loop-i.invariant.0 ∙ ap (λ n. c.args.line.now ++ spelling (lines_from c.args.k c.args.x n)) end

pub returns-clause-number : goal.returns-clause-number
returns-clause-number c =
    let end : c.loop-i.i ≡ 100 = omega (arith, c.loop-i-test.false, c.loop-i.auto.i-end) in
    c.loop-i.invariant.1 ∙ ap (number c.args.x) end
