use Rattle.std.proofs.Common.{◌≡◌, ◌-◌, ◌+◌, arith}
use Rattle.rd_spans.specs.Sides.{size_of}
use Rattle.rd_spans.proofs.Sides.{popped-rises, moved-needs, moved-values_of_both}
use Rattle.rd_spans.proofs.side.move_run.Goals as goal

pub overflow_sub-all : goal.overflow_sub-all
overflow_sub-all c =
    let p = popped-rises c.args.from.now.items c.pop.new.self.items c.in-Some.run' c.in-Some.ensures.items c.requires.rooms.runs.front_rises in
    let start : c.size.result ≡ size_of c.pop.new.self.items = rw c.deref.ensures.value at c.size.ensures in
    omega (arith, p.1.0)

pub push-requires-clause-order : goal.push-requires-clause-order
push-requires-clause-order c = (popped-rises c.args.from.now.items c.pop.new.self.items c.in-Some.run' c.in-Some.ensures.items c.requires.rooms.runs.front_rises).0

pub push-requires-clause-bound : goal.push-requires-clause-bound
push-requires-clause-bound c =
    let p = popped-rises c.args.from.now.items c.pop.new.self.items c.in-Some.run' c.in-Some.ensures.items c.requires.rooms.runs.front_rises in
    let start : c.size.result ≡ size_of c.pop.new.self.items = rw c.deref.ensures.value at c.size.ensures in
    omega (arith, p.1.0, p.1.1, c.requires.rooms.runs.few)

pub push-requires-2-clause-bound : goal.push-requires-2-clause-bound
push-requires-2-clause-bound c =
    let p = popped-rises c.args.from.now.items c.pop.new.self.items c.in-Some.run' c.in-Some.ensures.items c.requires.rooms.runs.front_rises in
    let start : c.size.result ≡ size_of c.pop.new.self.items = rw c.deref.ensures.value at c.size.ensures in
    omega (arith, p.1.0, p.1.1, c.requires.rooms.runs.few, c.min-moved.ensures)

pub returns-clause-moved : goal.returns-clause-moved
returns-clause-moved c =
    let p = popped-rises c.args.from.now.items c.pop.new.self.items c.in-Some.run' c.in-Some.ensures.items c.requires.rooms.runs.front_rises in
    let start : c.size.result ≡ size_of c.pop.new.self.items = rw c.deref.ensures.value at c.size.ensures in
    let rest = c.in-Some.run'.end - c.size.result - c.min-moved.result in
    let all : rest + c.min-moved.result ≡ c.in-Some.run'.end - size_of c.pop.new.self.items = omega (arith, p.1.0, c.min-moved.ensures, start) in
    record {
      same = moved-values_of_both c.args.from.now.items c.pop.new.self.items c.args.to.now.items c.push.new.runs.items c.push-2.new.runs.items c.in-Some.run' rest c.min-moved.result
          c.in-Some.ensures.items all c.push.ensures.values c.push-2.ensures.values;
      from_rises = c.push.ensures.order;
      to_rises = c.push-2.ensures.order;
      needs = moved-needs c.args.from.now.items c.pop.new.self.items c.args.to.now.items c.push.new.runs.items c.push-2.new.runs.items c.in-Some.run' rest c.min-moved.result
          c.in-Some.ensures.items (omega (arith, p.1.0, c.min-moved.ensures, start, c.requires.some)) c.push.ensures.nothing c.push.ensures.count c.push.ensures.top c.push-2.ensures.count c.push-2.ensures.top;
    }

pub returns-clause-less : goal.returns-clause-less
returns-clause-less c =
    let p = popped-rises c.args.from.now.items c.pop.new.self.items c.in-Some.run' c.in-Some.ensures.items c.requires.rooms.runs.front_rises in
    let start : c.size.result ≡ size_of c.pop.new.self.items = rw c.deref.ensures.value at c.size.ensures in
    omega (arith, p.1.0, p.1.1, c.min-moved.ensures, c.push.ensures.size)

pub returns-clause-some : goal.returns-clause-some
returns-clause-some c =
    let p = popped-rises c.args.from.now.items c.pop.new.self.items c.in-Some.run' c.in-Some.ensures.items c.requires.rooms.runs.front_rises in
    let start : c.size.result ≡ size_of c.pop.new.self.items = rw c.deref.ensures.value at c.size.ensures in
    λ any. omega (arith, p.1.0, c.min-moved.ensures, c.requires.some)
