use Rattle.std.proofs.Common.{◌≡◌, true, false, arith}
use Rattle.std.proofs.lemmas.Bool.Decides.{nat_tests}
use Rattle.rd_state.specs.Edits.{is_accessible}
use Rattle.rd_state.specs.States.{buffers_of}
use Rattle.rd_state.proofs.Viewing.{tells-at}
use Rattle.rd_state.proofs.views.accessible.Goals.{then-pos-begin-via-then-pos-begin, then-pos-begin-via-else-pos-begin+then-end-pos}
use Rattle.rd_state.proofs.views.accessible.Goals as goal

pub returns-then-pos-begin-clause-exact : goal.returns-then-pos-begin-clause-exact
returns-then-pos-begin-clause-exact c =
    let t = c.text_at-text.result.now in
    let out : is_accessible t c.args.pos ≡ false = elim c.then-pos-begin.branch [
      | then-pos-begin-via-then-pos-begin w ↦ grind (arith, nat_tests, c.begin.ensures.value, w.if-pos-begin.true)
      | then-pos-begin-via-else-pos-begin+then-end-pos w ↦ grind (arith, nat_tests, w.end.ensures.value, w.if-end-pos.true)
    ] in
    tells-at (buffers_of c.args.buffers.now.entries) c.args.i c.args.pos false t c.text_at-text.ensures out

pub returns-clause-exact : goal.returns-clause-exact
returns-clause-exact c =
    let t = c.text_at-text.result.now in
    let inside : is_accessible t c.args.pos ≡ true = grind (arith, nat_tests, c.begin.ensures.value, c.end.ensures.value, c.if-pos-begin.false, c.if-end-pos.false) in
    tells-at (buffers_of c.args.buffers.now.entries) c.args.i c.args.pos true t c.text_at-text.ensures inside
