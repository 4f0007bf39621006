use Rattle.std.proofs.Common.{arith, subst, sym, ◌∙◌}
use Rattle.rd_base.proofs.Choices.{none-of}
use Rattle.rd_spans.specs.Sides.{Rises}
use Rattle.rd_spans.proofs.Sides.{popped-rises, popped-length, trim-values, trim-lighter, trimmed-last, some-value}
use Rattle.rd_spans.proofs.side.trim.Goals as goal

pub returns-then-is_some-clause-trimmed : goal.returns-then-is_some-clause-trimmed
returns-then-is_some-clause-trimmed c =
    let rises = subst (Rises 0) c.in-Some.ensures.items c.loop-run.invariant.order in
    rw c.push_reserved.ensures.items (trimmed-last c.pop.new.self.items c.in-Some.run' rises (some-value c.in-Some.run'.value (sym c.is_some.ensures ∙ c.if-is_some.true)))

pub loop-run-preserved : goal.loop-run-preserved
loop-run-preserved c =
    let none = none-of c.in-Some.run'.value (sym c.is_some.ensures ∙ c.if-is_some.false) in
    let e = c.in-Some.ensures.items in
    let p = popped-rises c.loop-run.runs.items c.pop.new.self.items c.in-Some.run' e c.loop-run.invariant.order in
    let v = c.loop-run.invariant in
    record {
      values = λ q. trim-values c.loop-run.runs.items c.pop.new.self.items c.in-Some.run' q e none ∙ v.values q;
      order = p.0;
      less = omega (arith, p.1.0, p.1.1, v.less);
      lighter = λ other. omega (arith, trim-lighter c.loop-run.runs.items c.pop.new.self.items c.in-Some.run' other e, v.lighter other);
      count = omega (arith, popped-length c.loop-run.runs.items c.pop.new.self.items c.in-Some.run' e, v.count);
      room = c.pop.ensures.capacity ∙ v.room;
    }
