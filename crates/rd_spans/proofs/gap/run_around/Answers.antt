use Rattle.std.proofs.Common.{◌+◌, ◌-◌, arith, ap, sym, ◌∙◌}
use Rattle.rd_spans.specs.Values.{value_at}
use Rattle.rd_spans.specs.Sides.{values_of, size_of}
use Rattle.rd_spans.proofs.Sides.{values_of_both-front, values_of_both-back, values_of_both-past}
use Rattle.rd_spans.proofs.gap.run_around.Goals as goal

pub returns-then-pos-gap-clause-same : goal.returns-then-pos-gap-clause-same
returns-then-pos-gap-clause-same c = λ p low high.
    values_of_both-front c.args.front.now c.args.back.now p c.requires.runs.front_rises (omega (arith, c.run_at.ensures.last, high)) ∙ c.run_at.ensures.same p low high

pub returns-then-pos-end-clause-same : goal.returns-then-pos-end-clause-same
returns-then-pos-end-clause-same c = λ p low high.
    let front = c.args.front.now in
    let back = c.args.back.now in
    let first = c.run_at-run.ensures.first in
    let last = c.run_at-run.ensures.last in
    values_of_both-back front back p c.requires.runs.front_rises c.requires.runs.back_rises (omega (arith, c.size-gap.ensures, c.size.ensures, last, low)) (omega (arith, c.size-gap.ensures, c.size.ensures, high))
    ∙ c.run_at-run.ensures.same (size_of front + size_of back - 1 - p) (omega (arith, c.size-gap.ensures, c.size.ensures, first, last, high)) (omega (arith, c.size-gap.ensures, c.size.ensures, first, last, low))

pub returns-clause-same : goal.returns-clause-same
returns-clause-same c = λ p low high.
    values_of_both-past c.args.front.now c.args.back.now p c.requires.runs.front_rises c.requires.runs.back_rises (omega (arith, c.size-gap.ensures, c.size.ensures, low))

pub returns-then-pos-gap-clause-value : goal.returns-then-pos-gap-clause-value
returns-then-pos-gap-clause-value c =
    c.run_at.ensures.value ∙ sym (values_of_both-front c.args.front.now c.args.back.now c.args.pos c.requires.runs.front_rises (omega (arith, c.size-gap.ensures, c.if-pos-gap.true)))

pub returns-then-pos-end-clause-value : goal.returns-then-pos-end-clause-value
returns-then-pos-end-clause-value c =
    c.run_at-run.ensures.value
    ∙ (ap (value_at (values_of c.args.back.now)) (omega (arith, c.size-gap.ensures, c.size.ensures))
    ∙ sym (values_of_both-back c.args.front.now c.args.back.now c.args.pos c.requires.runs.front_rises c.requires.runs.back_rises (omega (arith, c.size-gap.ensures, c.if-pos-gap.false)) (omega (arith, c.size-gap.ensures, c.size.ensures, c.if-pos-end.true))))

pub returns-clause-value : goal.returns-clause-value
returns-clause-value c =
    sym (values_of_both-past c.args.front.now c.args.back.now c.args.pos c.requires.runs.front_rises c.requires.runs.back_rises (omega (arith, c.size-gap.ensures, c.size.ensures, c.if-pos-end.false)))
