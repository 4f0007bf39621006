use Rattle.std.proofs.Common.{arith, sym, ◌∙◌}
use Rattle.std.proofs.lemmas.Bool.{not-true, not-false}
use Rattle.rd_spans.proofs.Sides.{kept-count, taken-count, taken-values, popped-rises}
use Rattle.rd_spans.proofs.side.open_end.Goals as goal

pub returns-then-ne-clause-count : goal.returns-then-ne-clause-count
returns-then-ne-clause-count c =
    rw c.push_reserved.ensures.items
    (kept-count c.args.runs.now.items c.pop.new.self.items c.in-Some.run' c.args.value c.in-Some.ensures.items (not-true _ (sym c.ne.ensures ∙ c.if-ne.true)))

pub returns-else-ne : goal.returns-else-ne
returns-else-ne c =
    let p = popped-rises c.args.runs.now.items c.pop.new.self.items c.in-Some.run' c.in-Some.ensures.items c.requires.order in
    let same = not-false _ (sym c.ne.ensures ∙ c.if-ne.false) in
    record {
      values = taken-values c.args.runs.now.items c.pop.new.self.items c.in-Some.run' c.args.value c.in-Some.ensures.items same;
      order = p.0;
      count = taken-count c.args.runs.now.items c.pop.new.self.items c.in-Some.run' c.args.value c.in-Some.ensures.items same;
      less = omega (arith, p.1.0, p.1.1);
      room = c.pop.ensures.capacity;
    }
