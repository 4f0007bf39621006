use Rattle.std.proofs.Common.{◌∙◌, sym, true, false, arith}
use Rattle.rd_term.proofs.Walks.{back-passes, back-fails, back-none}
use Rattle.rd_term.proofs.walk.back_while.Goals.{then-loop-place-test+else-passes, else-loop-place-test}
use Rattle.rd_term.proofs.walk.back_while.Goals as goal

pub loop-place-preserved : goal.loop-place-preserved
loop-place-preserved g c = record {
  same = λ test told.
      back-passes test c.loop-place.place (omega (arith, c.loop-place-test.true)) (sym (told c.loop-place.place true c.loop-place-test.true (omega (arith, c.loop-place.invariant.order)) c.if-passes.ensures))
      ∙ c.loop-place.invariant.same test told;
  order = omega (arith, c.loop-place.invariant.order);
}

pub returns-clause-value : goal.returns-clause-value
returns-clause-value g c = λ test told.
    elim c.loop-place-test.branch [
      | then-loop-place-test+else-passes w ↦
          sym (back-fails test c.loop-place.place (sym (told c.loop-place.place false w.loop-place-test.true (omega (arith, c.loop-place.invariant.order)) w.if-passes.ensures)))
          ∙ c.loop-place.invariant.same test told
      | else-loop-place-test w ↦ back-none test c.loop-place.place w.loop-place-test.false ∙ c.loop-place.invariant.same test told
    ]
