use Rattle.std.proofs.Common.{◌-◌, Some, None, sym, ◌∙◌, arith}
use Rattle.rd_overlays.proofs.Lasts.{here-from, last-from}
use Rattle.rd_overlays.proofs.values.last_given.Goals as goal

pub returns-in-Some : goal.returns-in-Some
returns-in-Some g c = λ given told.
    let some = c.loop-place-test.true in
    let bound = c.loop-place.auto.place in
    sym (last-from given c.args.numbers.now (c.loop-place.place - 1) c.in-Some.found
    (here-from given c.args.numbers.now (c.loop-place.place - 1) c.loop-place.place (Some c.in-Some.found) (omega arith) (omega arith)
    (sym (told _ _ c.value.ensures) ∙ c.in-Some.is) (c.loop-place.invariant given told)))

pub loop-place-preserved : goal.loop-place-preserved
loop-place-preserved g c = λ given told.
    let some = c.loop-place-test.true in
    let bound = c.loop-place.auto.place in
    here-from given c.args.numbers.now (c.loop-place.place - 1) c.loop-place.place None (omega arith) (omega arith) (sym (told _ _ c.value.ensures) ∙ c.in_default.is) (c.loop-place.invariant given told)
