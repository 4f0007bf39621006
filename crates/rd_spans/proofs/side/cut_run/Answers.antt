use Rattle.std.proofs.Common.{◌≡◌, ◌++◌, ◌-◌, replicate, arith}
use Rattle.rd_spans.specs.Sides.{size_of, values_of}
use Rattle.rd_spans.proofs.Sides.{popped-rises, cut-values, cut-lighter}
use Rattle.rd_spans.proofs.side.cut_run.Goals as goal

pub push-requires-clause-order : goal.push-requires-clause-order
push-requires-clause-order c = (popped-rises c.args.runs.now.items c.pop.new.self.items c.in-Some.run' c.in-Some.ensures.items c.requires.order).0

pub push-requires-clause-bound : goal.push-requires-clause-bound
push-requires-clause-bound c =
    let p = popped-rises c.args.runs.now.items c.pop.new.self.items c.in-Some.run' c.in-Some.ensures.items c.requires.order in
    let start : c.size-start.result ≡ size_of c.pop.new.self.items = rw c.deref.ensures.value at c.size-start.ensures in
    omega (arith, p.1.0, p.1.1, c.requires.few, c.requires.bound, c.saturating_sub.ensures)

pub returns-clause-values : goal.returns-clause-values
returns-clause-values c =
    let start : c.size-start.result ≡ size_of c.pop.new.self.items = rw c.deref.ensures.value at c.size-start.ensures in
    let rest : c.saturating_sub.result ≡ c.args.end - size_of c.pop.new.self.items = rw (← start) c.saturating_sub.ensures in
    let values : values_of c.push.new.runs.items ≡ values_of c.pop.new.self.items ++ replicate (c.args.end - size_of c.pop.new.self.items) c.in-Some.run'.value = rw (← rest) c.push.ensures.values in
    cut-values c.args.runs.now.items c.pop.new.self.items c.push.new.runs.items c.in-Some.run' c.args.end c.in-Some.ensures.items c.requires.order c.requires.bound values

pub returns-clause-less : goal.returns-clause-less
returns-clause-less c =
    let p = popped-rises c.args.runs.now.items c.pop.new.self.items c.in-Some.run' c.in-Some.ensures.items c.requires.order in
    let start : c.size-start.result ≡ size_of c.pop.new.self.items = rw c.deref.ensures.value at c.size-start.ensures in
    omega (arith, p.1.0, p.1.1, c.requires.bound, c.saturating_sub.ensures, c.push.ensures.size)

pub returns-clause-lighter : goal.returns-clause-lighter
returns-clause-lighter c =
    cut-lighter c.args.runs.now.items c.pop.new.self.items c.push.new.runs.items c.in-Some.run' c.saturating_sub.result c.in-Some.ensures.items c.push.ensures.nothing c.push.ensures.count c.push.ensures.top
