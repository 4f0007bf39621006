use Rattle.std.proofs.Common.{◌≡◌, ◌∙◌, ◌+◌, ◌-◌, ap, sym, true, false, arith}
use Rattle.rd_term.specs.Walks.{passing}
use Rattle.rd_term.proofs.Walks.{on-passes, on-fails, on-none}
use Rattle.rd_term.proofs.walk.on_while.Goals.{then-loop-place-test+else-passes, else-loop-place-test}
use Rattle.rd_term.proofs.walk.on_while.Goals as goal

pub loop-place-preserved : goal.loop-place-preserved
loop-place-preserved g c = record {
  same = λ test told.
      let here = told c.loop-place.place true c.loop-place.invariant.order c.loop-place-test.true c.if-passes.ensures in
      let more = on-passes test c.loop-place.place (c.args.end - c.loop-place.place) (omega (arith, c.loop-place-test.true)) (sym here) in
      let left : c.args.end - c.loop-place.place - 1 ≡ c.args.end - (c.loop-place.place + 1) = omega arith in
      ap (λ n. c.loop-place.place + 1 + passing test (c.loop-place.place + 1) n) (sym left) ∙ omega (arith, more, c.loop-place.invariant.same test told);
  order = omega (arith, c.loop-place.invariant.order);
  within = omega (arith, c.loop-place-test.true);
}

pub returns-clause-value : goal.returns-clause-value
returns-clause-value g c = λ test told.
    let same = c.loop-place.invariant.same test told in
    elim c.loop-place-test.branch [
      | then-loop-place-test+else-passes w ↦
          let here = told c.loop-place.place false c.loop-place.invariant.order w.loop-place-test.true w.if-passes.ensures in
          omega (arith, on-fails test c.loop-place.place (c.args.end - c.loop-place.place) (sym here), same)
      | else-loop-place-test w ↦ omega (arith, on-none test c.loop-place.place (c.args.end - c.loop-place.place) (omega (arith, w.loop-place-test.false)), same)
    ]
