use Rattle.std.proofs.Common.{◌≡◌, ◌-◌, ap, take, arith, ◌∙◌}
use Rattle.rd_spans.specs.Sides.{size_of, values_of}
use Rattle.rd_spans.proofs.Sides.{cut-whole}
use Rattle.rd_spans.proofs.side.cut.Goals as goal

pub returns-clause-cut : goal.returns-clause-cut
returns-clause-cut c =
    let now : c.size-in-loop-runs.result ≡ size_of c.loop-runs.runs.items = rw c.deref-in-loop-runs.ensures.value at c.size-in-loop-runs.ensures in
    let was : c.size.result ≡ size_of c.args.runs.now.items = rw c.deref.ensures.value at c.size.ensures in
    let end : c.saturating_sub-end.result ≡ size_of c.args.runs.now.items - c.args.n = rw (← was) c.saturating_sub-end.ensures in
    let here : size_of c.loop-runs.runs.items ≡ c.saturating_sub-end.result = omega (arith, c.loop-runs-test.false, c.loop-runs.invariant.enough) in
    record {
      rises = c.loop-runs.invariant.order;
      values = cut-whole c.loop-runs.runs.items c.args.runs.now.items c.saturating_sub-end.result c.loop-runs.invariant.order here c.loop-runs.invariant.values
          ∙ ap (λ n. take n (values_of c.args.runs.now.items)) end;
      size = here ∙ end;
    }
