use Rattle.std.proofs.Common.{◌≡◌, ◌-◌, ◌∙◌, take, ap, sym, arith}
use Rattle.rd_brackets.specs.Sides.{last_side}
use Rattle.rd_brackets.proofs.Spans.{last-left, last-right, last-past}
use Rattle.rd_brackets.proofs.sides.last_side.Goals as goal

pub returns-then-counts_as : goal.returns-then-counts_as
returns-then-counts_as c =
    let within = c.loop-count.invariant.within in
    let some = c.loop-count-test.true in
    sym (sym c.loop-count.invariant.last
    ∙ last-left c.args.sos c.args.types.now c.loop-count.count (c.loop-count.count - 1) (omega arith) (omega arith) (sym c.counts_as.ensures ∙ c.if-counts_as.true))

pub returns-then-counts_as-2 : goal.returns-then-counts_as-2
returns-then-counts_as-2 c =
    let within = c.loop-count.invariant.within in
    let some = c.loop-count-test.true in
    sym (sym c.loop-count.invariant.last
    ∙ last-right c.args.sos c.args.types.now c.loop-count.count (c.loop-count.count - 1) (omega arith) (omega arith)
    (sym c.counts_as.ensures ∙ c.if-counts_as.false) (sym c.counts_as-in-loop-count.ensures ∙ c.if-counts_as-2.true))

pub loop-count-preserved : goal.loop-count-preserved
loop-count-preserved c =
    let within = c.loop-count.invariant.within in
    let some = c.loop-count-test.true in
    record {
      within = omega arith;
      last = last-past c.args.sos c.args.types.now c.loop-count.count (c.loop-count.count - 1) (omega arith) (omega arith)
          (sym c.counts_as.ensures ∙ c.if-counts_as.false) (sym c.counts_as-in-loop-count.ensures ∙ c.if-counts_as-2.false)
          ∙ c.loop-count.invariant.last;
    }

pub returns : goal.returns
returns c =
    let none : c.loop-count.count ≡ 0 = omega arith in
    sym (ap (λ k. last_side c.args.sos (take k c.args.types.now)) none) ∙ c.loop-count.invariant.last
