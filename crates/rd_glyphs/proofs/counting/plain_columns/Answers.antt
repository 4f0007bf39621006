use Rattle.std.proofs.Common.{arith, ◌≡◌, ◌+◌, ◌∷◌, drop, refl}
use Rattle.std.proofs.lemmas.Grind.{common_steps}
use Rattle.rd_glyphs.proofs.Sums.{counted, reached}
use Rattle.rd_glyphs.proofs.counting.plain_columns.Goals as goal

pub loop-ch-preserved : goal.loop-ch-preserved
loop-ch-preserved c =
    let split : drop c.loop-ch.ch-index c.args.text.now ≡ c.ch-item.result ∷ drop (c.loop-ch.ch-index + 1) c.args.text.now = grind (arith, common_steps) in
    let moved = counted c.args.classes.now c.loop-ch.held c.held_after-held.result c.shown_as-shown.result c.ch-item.result c.code.result _ _ c.loop-ch.columns _ _
    split c.code.ensures.value (rw c.class.ensures at c.shown_as-shown.ensures.value) c.given_columns-columns.ensures.value c.held_after-held.ensures.value c.loop-ch.invariant.0 in
    (moved, c.held_after-held.ensures.columns c.loop-ch.invariant.1, omega arith)

pub returns-then-columns-most : goal.returns-then-columns-most
returns-then-columns-most c =
    let split : drop c.loop-ch.ch-index c.args.text.now ≡ c.ch-item.result ∷ drop (c.loop-ch.ch-index + 1) c.args.text.now = grind (arith, common_steps) in
    let moved = counted c.args.classes.now c.loop-ch.held _ c.shown_as-shown.result c.ch-item.result c.code.result _ _ c.loop-ch.columns _ _
    split c.code.ensures.value (rw c.class.ensures at c.shown_as-shown.ensures.value) c.given_columns-columns.ensures.value refl c.loop-ch.invariant.0 in
    reached _ _ _ _ moved c.if-columns-most.true
